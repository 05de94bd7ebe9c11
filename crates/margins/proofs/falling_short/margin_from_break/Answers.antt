use Rattle.std.proofs.Common.{pos, ◌≤ℤ◌, ◌<ℤ◌, w64, rules, arith}
use mir.Val.{SFits}
use Rattle.std.proofs.lemmas.Int.{ints, to_z-of_z}
use Rattle.margins.proofs.Deciding.{found_never, gap_above_made, own_breaks}
use Rattle.margins.proofs.falling_short.margin_from_break.Goals as goal

pub returns-then-least-ge0-clause-found : goal.returns-then-least-ge0-clause-found
returns-then-least-ge0-clause-found c =
    let le : pos 0 ≤ℤ c.args.sought.now.reach.least = omega (arith, ints) in
    found_never c.args.sought.now c.args.row (pos 0) c.requires.sought le (own_breaks c.args.sought.now c.args.row c.requires.breaks)

pub returns-then-is_broken-clause-found : goal.returns-then-is_broken-clause-found
returns-then-is_broken-clause-found c =
    let le : c.args.sought.now.reach.least ≤ℤ c.args.sought.now.reach.least = omega (arith, ints) in
    found_never c.args.sought.now c.args.row c.args.sought.now.reach.least c.requires.sought le (c.in_ok-is_broken.ensures c.if-is_broken.true)

pub broken_at-requires-clause-breaks : goal.broken_at-requires-clause-breaks
broken_at-requires-clause-breaks c = own_breaks c.args.sought.now c.args.row c.requires.breaks

pub margin_from_least-requires-clause-gap : goal.margin_from_least-requires-clause-gap
margin_from_least-requires-clause-gap c =
    let fits : SFits w64 c.args.sought.now.reach.least = search rules in
    let others : SFits w64 c.in_ok-breaks.breaks = search rules in
    let more : c.args.sought.now.reach.least <ℤ c.in_ok-breaks.breaks = omega (arith, ints, c.in_ok-breaks.ensures.above) in
    let least : c.args.sought.now.reach.least ≤ℤ c.args.sought.now.reach.least = omega (arith, ints) in
    let most : c.in_ok-breaks.breaks ≤ℤ c.args.sought.now.reach.most = omega (arith, ints, c.in_ok-breaks.ensures.below, c.requires.sought.reach.outward) in
    gap_above_made c.args.sought.now c.args.sought.now.reach.least c.in_ok-breaks.breaks _ _ c.args.row (to_z-of_z w64 c.args.sought.now.reach.least fits)
    (to_z-of_z w64 c.in_ok-breaks.breaks others) more least most c.in_ok-breaks.ensures.breaks
