use Rattle.std.proofs.Common.{◌≡◌, map, take}
use Rattle.edge_clauses.specs.Clauses.{unmet}
use Rattle.edge_clauses.proofs.weights.refuting.Given as goal

-- the opposites so far
abbrev pub invariant-loop-edge : goal.invariant-loop-edge
invariant-loop-edge l = l.opposites.items ≡ map unmet (take l.edge-index l.edges)
