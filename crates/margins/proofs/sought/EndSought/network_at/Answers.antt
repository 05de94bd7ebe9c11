use Rattle.std.proofs.Common.{◌≡◌, to_z, of_z, w64}
use Rattle.std.proofs.lemmas.Int.{to_z-of_z}
use Rattle.margins.proofs.sought.EndSought.network_at.Goals as goal

pub returns-clause-net : goal.returns-clause-net
returns-clause-net c =
    let kept : to_z w64 (of_z w64 c.args.by) ≡ c.args.by = to_z-of_z w64 c.args.by c.ranges.by in rw kept at c.moved_network.ensures.net

pub returns-clause-drawn : goal.returns-clause-drawn
returns-clause-drawn c =
    let kept : to_z w64 (of_z w64 c.args.by) ≡ c.args.by = to_z-of_z w64 c.args.by c.ranges.by in rw kept at c.moved_network.ensures.ranges
