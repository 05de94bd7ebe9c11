use Rattle.std.proofs.Common.{◌≡◌, to_z, of_z, w64, rules}
use mir.Val.{SFits}
use Rattle.std.proofs.lemmas.Int.{to_z-of_z}
use Rattle.margins.proofs.falling_short.margin_from_least.Goals as goal

pub margin_by_least-found-requires-clause-probed : goal.margin_by_least-found-requires-clause-probed
margin_by_least-found-requires-clause-probed c =
    let fits : SFits w64 c.args.gap.contradicts = search rules in
    let kept : to_z w64 (of_z w64 c.args.gap.contradicts) ≡ c.args.gap.contradicts = to_z-of_z w64 c.args.gap.contradicts fits in
    rw kept at c.in_ok-probed.ensures.probed
