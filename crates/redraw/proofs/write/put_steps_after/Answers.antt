use Rattle.std.proofs.lemmas.Result.{err_from_is_err_and}
use Rattle.itv_base.proofs.Written.{left_after, left_cut}
use Rattle.redraw.proofs.Pieces.{near_at, steps_at}
use Rattle.redraw.proofs.write.put_steps_after.Goals as goal

pub returns-in_err-put_step : goal.returns-in_err-put_step
returns-in_err-put_step g c =
    let p = err_from_is_err_and c.from_residual.result c.from_residual.ensures.1 in
    rw p.1 (left_cut _ _ _ _ _ _ _ c.loop-stand.invariant.left (steps_at _ _ _ _ c.loop-stand-test.true) c.in_err-put_step.ensures)

pub loop-stand-preserved : goal.loop-stand-preserved
loop-stand-preserved g c = record {
  left = left_after _ _ _ _ _ _ _ c.loop-stand.invariant.left (steps_at _ _ _ _ c.loop-stand-test.true) c.in_ok-put_step.ensures;
  near = (near_at _ _ _ _ c.loop-stand-test.true c.loop-stand.invariant.near).2;
  number = c.requires.numbers _ _ c.loop-stand-test.true;
}
