use Rattle.std.proofs.Common.{List, subst}
use Rattle.drawn_networks.specs.declared.row.Row.{Row}
use Rattle.moves.specs.Networks.{IsNetFound}
use Rattle.moves.specs.Step.{bare_drawn}
use Rattle.spans.proofs.Found.{frame_found}
use Rattle.spans.proofs.sought.SpanSought.probe_frame.Goals as goal

pub returns-clause-found : goal.returns-clause-found
returns-clause-found c =
    let frames = rw c.in-Some.is at c.in_ok-framed.ensures.frames in
    let found = subst (λ (rs : List Row). IsNetFound (bare_drawn c.in-Some.frame.net rs) c.in_ok-probed.probed.found) c.deref.ensures.value c.in_ok-probed.ensures.found in
    frame_found c.args.self.now c.args.counts.now c.args.interval c.args.kind c.in-Some.frame.net c.in-Some.frame.rows.items c.in_ok-probed.probed.found frames found
