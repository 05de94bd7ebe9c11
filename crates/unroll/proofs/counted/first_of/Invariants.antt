use Rattle.std.proofs.Common.{◌≡◌, drop}
use Rattle.unroll.specs.Limits.{first_passed}
use Rattle.unroll.proofs.counted.first_of.Given as goal

abbrev pub invariant-loop-counted : goal.invariant-loop-counted
invariant-loop-counted l = first_passed l.counts ≡ first_passed (drop l.counted-index l.counts)
