use Rattle.chains.specs.Step.Spreading.{LooksAt}
use Rattle.chains.proofs.Looked.{HasConstraintBelow, IsAny}
use Rattle.chains.proofs.spreading.sweep.Given as goal

-- the edges of the constraints so far were looked at
abbrev pub invariant-loop-number : goal.invariant-loop-number
invariant-loop-number l = LooksAt l.net l.times (HasConstraintBelow l.number) l.fn.spread l.spread

-- all were looked at, and some of them again
abbrev pub invariant-loop-number-2 : goal.invariant-loop-number-2
invariant-loop-number-2 l = LooksAt l.net l.times IsAny l.fn.spread l.spread
