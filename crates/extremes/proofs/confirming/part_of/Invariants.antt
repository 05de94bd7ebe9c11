use Rattle.extremes.proofs.Parts.{ArePart}
use Rattle.extremes.proofs.confirming.part_of.Given as goal

-- the constraints of the set so far
abbrev pub invariant-loop-number : goal.invariant-loop-number
invariant-loop-number l = ArePart l.net l.set l.number l.part
