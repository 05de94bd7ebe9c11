use Rattle.std.proofs.lemmas.Result.{err_from_is_err_and}
use Rattle.clause_texts.proofs.Putting.{first_cut, know_parts, second_cut, third_puts}
use Rattle.clause_texts.proofs.writing.put_know.Goals as goal

pub returns-in_err-put : goal.returns-in_err-put
returns-in_err-put g c =
    let p = err_from_is_err_and c.from_residual.result c.from_residual.ensures.1 in
    rw p.1 (first_cut (know_parts c.args.edge c.args.basis) _ _ c.in_err-put.ensures.puts)

pub returns-in_err-put_difference : goal.returns-in_err-put_difference
returns-in_err-put_difference g c =
    let p = err_from_is_err_and c.from_residual-in_err-put_difference.result c.from_residual-in_err-put_difference.ensures.1 in
    rw p.1 (second_cut (know_parts c.args.edge c.args.basis) _ _ _ c.in_ok-put.ensures.puts c.in_err-put_difference.ensures)

pub returns : goal.returns
returns g c = third_puts (know_parts c.args.edge c.args.basis) _ _ _ _ _ c.in_ok-put.ensures.puts c.in_ok-put_difference.ensures c.put_basis_end.ensures
