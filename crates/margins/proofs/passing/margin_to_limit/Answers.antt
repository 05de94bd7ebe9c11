use Rattle.std.proofs.Common.{◌≡◌, to_z, of_z, w64, rules}
use mir.Val.{SFits}
use Rattle.std.proofs.lemmas.Int.{to_z-of_z}
use Rattle.margins.proofs.passing.margin_to_limit.Goals as goal

pub margin_at_limit-found-requires-clause-probed : goal.margin_at_limit-found-requires-clause-probed
margin_at_limit-found-requires-clause-probed c =
    let fits : SFits w64 c.args.sought.now.reach.most = search rules in
    let kept : to_z w64 (of_z w64 c.args.sought.now.reach.most) ≡ c.args.sought.now.reach.most = to_z-of_z w64 c.args.sought.now.reach.most fits in
    rw kept at c.in_ok-probed.ensures.probed
