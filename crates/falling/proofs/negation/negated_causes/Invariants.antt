use Rattle.std.proofs.Common.{◌≡◌, Some, map, slice_get, take}
use Rattle.event_graph.specs.Network.{Constraint}
use Rattle.falling.specs.Kinds.{negated_cause}
use Rattle.falling.proofs.negation.negated_causes.Given as goal

-- the negated causes so far
abbrev pub invariant-loop-cause : goal.invariant-loop-cause
invariant-loop-cause l = (k : Constraint) → slice_get l.net.constraints l.number ≡ Some k → l.causes.items ≡ map negated_cause (take l.cause k.causes)
