use Rattle.std.proofs.Common.{◌≡◌, to_z, of_z, w64, rules}
use mir.Val.{SFits}
use Rattle.std.proofs.lemmas.Int.{to_z-of_z}
use Rattle.margins.proofs.falling_short.breaks_at_least.Goals as goal

pub returns : goal.returns
returns c =
    let fits : SFits w64 c.args.sought.now.reach.least = search rules in
    let kept : to_z w64 (of_z w64 c.args.sought.now.reach.least) ≡ c.args.sought.now.reach.least = to_z-of_z w64 c.args.sought.now.reach.least fits in
    rw kept at c.breaks_at.ensures.breaks
