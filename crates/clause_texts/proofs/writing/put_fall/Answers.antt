use Rattle.std.proofs.lemmas.Result.{err_from_is_err_and}
use Rattle.clause_texts.proofs.Putting.{fall_parts, first_cut, second_cut, third_puts}
use Rattle.clause_texts.proofs.writing.put_fall.Goals as goal

pub returns-in_err-put_named : goal.returns-in_err-put_named
returns-in_err-put_named g c =
    let p = err_from_is_err_and c.from_residual.result c.from_residual.ensures.1 in
    rw p.1 (first_cut (fall_parts c.args.bound.event c.args.bound.value c.args.bound.basis) _ _ c.in_err-put_named.ensures)

pub returns-in_err-put_value : goal.returns-in_err-put_value
returns-in_err-put_value g c =
    let p = err_from_is_err_and c.from_residual-in_err-put_value.result c.from_residual-in_err-put_value.ensures.1 in
    rw p.1 (second_cut (fall_parts c.args.bound.event c.args.bound.value c.args.bound.basis) _ _ _ c.in_ok-put_named.ensures c.in_err-put_value.ensures)

pub returns : goal.returns
returns g c = third_puts (fall_parts c.args.bound.event c.args.bound.value c.args.bound.basis) _ _ _ _ _ c.in_ok-put_named.ensures c.in_ok-put_value.ensures c.put_basis_end.ensures
