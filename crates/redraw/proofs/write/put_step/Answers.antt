use Rattle.std.proofs.lemmas.Result.{err_from_is_err_and}
use Rattle.redraw.proofs.Pieces.{both_put, first_cut, step_is}
use Rattle.redraw.proofs.write.put_step.Goals as goal

pub returns-in_err-put_edge : goal.returns-in_err-put_edge
returns-in_err-put_edge g c =
    let p = err_from_is_err_and c.from_residual.result c.from_residual.ensures.1 in
    rw p.1 (first_cut _ _ _ _ _ (step_is c.args.before c.args.stand c.mark_at-from.result c.mark_at-to.result c.exactly_between-range.result c.mark_at-from.ensures c.mark_at-to.ensures c.exactly_between-range.ensures.range) c.in_err-put_edge.ensures)

pub returns : goal.returns
returns g c = both_put _ _ _ _ _ _ _ (step_is c.args.before c.args.stand c.mark_at-from.result c.mark_at-to.result c.exactly_between-range.result c.mark_at-from.ensures c.mark_at-to.ensures c.exactly_between-range.ensures.range) c.in_ok-put_edge.ensures c.put.ensures.puts
