use Rattle.std.proofs.lemmas.Result.{err_from_is_err_and}
use Rattle.clause_texts.proofs.Putting.{first_cut, kept_parts, second_cut, third_puts}
use Rattle.clause_texts.proofs.writing.put_kept.Goals as goal

pub returns-in_err-put_steps : goal.returns-in_err-put_steps
returns-in_err-put_steps g c =
    let p = err_from_is_err_and c.from_residual.result c.from_residual.ensures.1 in
    rw p.1 (first_cut (kept_parts c.args.steps.now c.args.clause.now) _ _ c.in_err-put_steps.ensures)

pub returns-in_err-put : goal.returns-in_err-put
returns-in_err-put g c =
    let p = err_from_is_err_and c.from_residual-in_err-put.result c.from_residual-in_err-put.ensures.1 in
    rw p.1 (second_cut (kept_parts c.args.steps.now c.args.clause.now) _ _ _ c.in_ok-put_steps.ensures c.in_err-put.ensures.puts)

pub returns : goal.returns
returns g c = third_puts (kept_parts c.args.steps.now c.args.clause.now) _ _ _ _ _ c.in_ok-put_steps.ensures c.in_ok-put.ensures.puts c.put_differences.ensures
