use Rattle.std.proofs.Common.{◌≡◌, to_z, of_z, w64, rules}
use mir.Val.{SFits}
use Rattle.std.proofs.lemmas.Int.{to_z-of_z}
use Rattle.margins.proofs.passing.margin_from_least.Goals as goal

pub margin_at_least-found-requires-clause-probed : goal.margin_at_least-found-requires-clause-probed
margin_at_least-found-requires-clause-probed c =
    let fits : SFits w64 c.args.sought.now.reach.least = search rules in
    let kept : to_z w64 (of_z w64 c.args.sought.now.reach.least) ≡ c.args.sought.now.reach.least = to_z-of_z w64 c.args.sought.now.reach.least fits in
    rw kept at c.in_ok-probed.ensures.probed
