use Rattle.std.proofs.lemmas.Result.{err_from_is_err_and}
use Rattle.itv_base.proofs.Written.{left_after, left_cut}
use Rattle.job_why.proofs.Gathering.{steps_more}
use Rattle.job_why.proofs.steps.put_onward.Goals as goal

pub returns-in_err-put_step : goal.returns-in_err-put_step
returns-in_err-put_step g c =
    let p = err_from_is_err_and c.from_residual.result c.from_residual.ensures.1 in
    rw p.1 (left_cut _ _ _ _ _ _ _ c.loop-name.invariant (steps_more _ _ _ _ c.loop-name-test.true) c.in_err-put_step.ensures)

pub loop-name-preserved : goal.loop-name-preserved
loop-name-preserved g c =
    left_after _ _ _ _ _ _ _ c.loop-name.invariant (steps_more _ _ _ _ c.loop-name-test.true) c.in_ok-put_step.ensures
