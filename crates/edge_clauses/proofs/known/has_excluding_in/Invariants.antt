use Rattle.std.proofs.Common.{length}
use Rattle.edge_clauses.proofs.Knowing.{LooksOn}
use Rattle.edge_clauses.proofs.known.has_excluding_in.Given as goal

-- if some edge excludes, one up to this place does
abbrev pub invariant-loop-at : goal.invariant-loop-at
invariant-loop-at l = LooksOn l.edge l.chains.edges.items (length l.chains.last.items) l.at

abbrev pub decreases-loop-at : goal.decreases-loop-at
decreases-loop-at l = l.at
