use Rattle.std.proofs.Common.{◌∷◌, [], w64}
use Rattle.std.proofs.lemmas.Int.{to_z-of_z}
use Rattle.moves.specs.Moving.{widened}
use Rattle.margins.proofs.Opening.{net_here, net_is}
use Rattle.margins.proofs.sought.EndSought.probe_at.Goals as goal

pub probe_net-requires-clause-net : goal.probe_net-requires-clause-net
probe_net-requires-clause-net c =
    let drawn = c.args.self.now.drawn.now in
    net_is (widened c.args.self.now.side c.args.by) drawn (c.args.self.now.number.now ∷ []) c.in-Some.net
    (net_here c.args.self.now.side drawn c.args.self.now.number.now c.args.by _ c.in_ok-net.field-0 c.in-Some.net c.in-Some.is (to_z-of_z w64 c.args.by c.ranges.by) c.in_ok-net.ensures.net)
