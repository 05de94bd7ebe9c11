use Rattle.branch.proofs.MetSplits.{AreSplitsBelow}
use Rattle.branch.proofs.distances.fill.Given as goal

-- the numbers of the constraints so far
abbrev pub invariant-loop-number : goal.invariant-loop-number
invariant-loop-number l = AreSplitsBelow l.net l.rules.items l.number
