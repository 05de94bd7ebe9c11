use Rattle.std.proofs.lemmas.Result.{err_from_is_err_and}
use Rattle.std.proofs.Common.{◌<◌, ◌≤◌, length, arith}
use Rattle.itv_base.proofs.Written.{left_after, left_cut}
use Rattle.job_why.proofs.Gathering.{steps_back}
use Rattle.job_why.proofs.steps.put_back.Goals as goal

pub returns-in_err-put_step : goal.returns-in_err-put_step
returns-in_err-put_step g c =
    let p = err_from_is_err_and c.from_residual.result c.from_residual.ensures.1 in
    let some : 0 < c.loop-place.place = grind arith in
    let within : c.loop-place.place ≤ length c.args.names.now = grind arith in
    rw p.1 (left_cut _ _ _ _ _ _ _ c.loop-place.invariant (steps_back _ _ _ _ some within) c.in_err-put_step.ensures)

pub loop-place-preserved : goal.loop-place-preserved
loop-place-preserved g c =
    let some : 0 < c.loop-place.place = grind arith in
    let within : c.loop-place.place ≤ length c.args.names.now = grind arith in
    left_after _ _ _ _ _ _ _ c.loop-place.invariant (steps_back _ _ _ _ some within) c.in_ok-put_step.ensures
