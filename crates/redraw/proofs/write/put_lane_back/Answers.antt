use Rattle.std.proofs.Common.{refl}
use Rattle.std.proofs.lemmas.Result.{err_from_is_err_and}
use Rattle.redraw.proofs.Pieces.{both_put, first_cut}
use Rattle.redraw.proofs.write.put_lane_back.Goals as goal

pub returns-in_err-put_wave : goal.returns-in_err-put_wave
returns-in_err-put_wave g c =
    let p = err_from_is_err_and c.from_residual.result c.from_residual.ensures.1 in
    rw p.1 (first_cut _ _ _ _ _ refl c.in_err-put_wave.ensures)

pub returns : goal.returns
returns g c = both_put _ _ _ _ _ _ _ refl c.in_ok-put_wave.ensures c.put_lane_end.ensures
