use Rattle.std.proofs.Common.{◌≡◌, ◌*◌, drop}
use Rattle.event_graph.specs.Edges.{cause_choices}
use Rattle.event_graph.proofs.network.Network.choices_fit.Given as goal

-- the product so far times the product of the other constraints is the whole product
abbrev pub invariant-loop-constraint : goal.invariant-loop-constraint
invariant-loop-constraint l = l.product * cause_choices (drop l.constraint-index l.self.constraints) ≡ cause_choices l.self.constraints
