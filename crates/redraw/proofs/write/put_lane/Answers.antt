use Rattle.std.proofs.Common.{ap, refl}
use Rattle.std.proofs.lemmas.Result.{err_from_is_err_and}
use Rattle.slack_report.specs.Text.{name_word}
use Rattle.redraw.specs.Drawing.{mark_at}
use Rattle.redraw.proofs.Pieces.{both_put, first_cut, lane_is}
use Rattle.redraw.proofs.write.put_lane.Goals as goal

pub returns-in_err-put_lane_front : goal.returns-in_err-put_lane_front
returns-in_err-put_lane_front g c =
    let p = err_from_is_err_and c.from_residual.result c.from_residual.ensures.1 in
    rw p.1 (first_cut _ _ _ _ _ (lane_is _ _ c.args.stand.place (mark_at c.args.stand.number) (mark_at c.args.stand.number) (ap name_word c.name.ensures.name) refl) c.in_err-put_lane_front.ensures)

pub returns : goal.returns
returns g c = both_put _ _ _ _ _ _ _ (lane_is _ _ c.args.stand.place (mark_at c.args.stand.number) c.mark_at.result (ap name_word c.name.ensures.name) c.mark_at.ensures) c.in_ok-put_lane_front.ensures c.put_lane_back.ensures
