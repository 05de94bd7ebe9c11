use Rattle.std.proofs.Common.{◌≡◌, map, take}
use Rattle.falling.specs.Kinds.{negated_constraint}
use Rattle.falling.proofs.negation.negation_of.Given as goal

-- the negations of the constraints so far
abbrev pub invariant-loop-number : goal.invariant-loop-number
invariant-loop-number l = l.negation ≡ record { events = l.net.events; constraints = map negated_constraint (take l.number l.net.constraints) }
