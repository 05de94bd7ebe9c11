use Rattle.std.proofs.lemmas.Result.{err_from_is_err_and}
use Rattle.itv_base.proofs.Written.{left_after, left_cut}
use Rattle.redraw.proofs.Pieces.{lanes_at}
use Rattle.redraw.proofs.write.put_other_lanes.Goals as goal

pub returns-in_err-put_next_lane : goal.returns-in_err-put_next_lane
returns-in_err-put_next_lane g c =
    let p = err_from_is_err_and c.from_residual.result c.from_residual.ensures.1 in
    rw p.1 (left_cut _ _ _ _ _ _ _ c.loop-stand.invariant (lanes_at _ _ _ _ c.loop-stand-test.true) c.in_err-put_next_lane.ensures)

pub loop-stand-preserved : goal.loop-stand-preserved
loop-stand-preserved g c = left_after _ _ _ _ _ _ _ c.loop-stand.invariant (lanes_at _ _ _ _ c.loop-stand-test.true) c.in_ok-put_next_lane.ensures
