use Rattle.chains.specs.Step.Spreading.{LooksAt}
use Rattle.chains.proofs.Looked.{HasCauseBelow}
use Rattle.chains.proofs.spreading.look_along.Given as goal

-- the edges of the causes so far were looked at
abbrev pub invariant-loop-cause : goal.invariant-loop-cause
invariant-loop-cause l = LooksAt l.net l.times (HasCauseBelow l.number l.cause) l.fn.spread l.spread
