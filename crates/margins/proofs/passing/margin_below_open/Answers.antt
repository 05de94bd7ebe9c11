use Rattle.std.proofs.Common.{◌≤ℤ◌, arith}
use Rattle.std.proofs.lemmas.Int.{ints}
use Rattle.margins.proofs.Deciding.{found_limit, same_of}
use Rattle.margins.proofs.passing.margin_below_open.Goals as goal

pub returns-then-sought-passes-clause-found : goal.returns-then-sought-passes-clause-found
returns-then-sought-passes-clause-found c =
    let ge : c.args.sought.now.reach.most ≤ℤ c.args.passes = omega (arith, ints) in
    found_limit c.args.sought.now c.args.row c.args.passes c.requires.sought c.requires.least (same_of c.args.passes c.args.sought.now.reach.most c.requires.most ge) c.requires.passes
    c.requires.breaks
