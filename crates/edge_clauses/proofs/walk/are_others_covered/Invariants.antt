use Rattle.std.proofs.Common.{◌≡◌, ◌<◌, ◌⊎◌, ℕ, Some, slice_get}
use Rattle.event_graph.specs.declared.edge.Edge.{Edge}
use Rattle.edge_clauses.specs.Lines.{IsCovered}
use Rattle.edge_clauses.proofs.walk.are_others_covered.Given as goal

-- the edges so far are covered, but for the one that the step goes through
abbrev pub invariant-loop-place : goal.invariant-loop-place
invariant-loop-place l = (k : ℕ) (other : Edge) → k < l.place → slice_get l.clause k ≡ Some other → (k ≡ l.through) ⊎ IsCovered l.event l.walk l.shown other
