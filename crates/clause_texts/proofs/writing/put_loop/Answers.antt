use Rattle.std.proofs.lemmas.Result.{err_from_is_err_and}
use Rattle.clause_texts.proofs.Putting.{first_cut, loop_parts, second_cut, third_puts}
use Rattle.clause_texts.proofs.writing.put_loop.Goals as goal

pub returns-in_err-put_named : goal.returns-in_err-put_named
returns-in_err-put_named g c =
    let p = err_from_is_err_and c.from_residual.result c.from_residual.ensures.1 in
    rw p.1 (first_cut (loop_parts c.args.event c.args.steps.now c.args.clause.now) _ _ c.in_err-put_named.ensures)

pub returns-in_err-put_kept : goal.returns-in_err-put_kept
returns-in_err-put_kept g c =
    let p = err_from_is_err_and c.from_residual-in_err-put_kept.result c.from_residual-in_err-put_kept.ensures.1 in
    rw p.1 (second_cut (loop_parts c.args.event c.args.steps.now c.args.clause.now) _ _ _ c.in_ok-put_named.ensures c.in_err-put_kept.ensures)

pub returns : goal.returns
returns g c = third_puts (loop_parts c.args.event c.args.steps.now c.args.clause.now) _ _ _ _ _ c.in_ok-put_named.ensures c.in_ok-put_kept.ensures c.put.ensures.puts
