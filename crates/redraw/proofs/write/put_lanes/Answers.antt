use Rattle.std.proofs.lemmas.Result.{err_from_is_err_and}
use Rattle.redraw.proofs.Pieces.{both_put, first_cut, lanes_first}
use Rattle.redraw.proofs.write.put_lanes.Goals as goal

pub returns-in_err-put_lane : goal.returns-in_err-put_lane
returns-in_err-put_lane g c =
    let p = err_from_is_err_and c.from_residual.result c.from_residual.ensures.1 in
    rw p.1 (first_cut _ _ _ _ _ (lanes_first _ _ _ c.requires.some) c.in_err-put_lane.ensures)

pub returns : goal.returns
returns g c = both_put _ _ _ _ _ _ _ (lanes_first _ _ _ c.requires.some) c.in_ok-put_lane.ensures c.put_other_lanes.ensures
