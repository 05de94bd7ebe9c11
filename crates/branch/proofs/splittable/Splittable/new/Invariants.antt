use Rattle.std.proofs.Common.{◌≡◌, ℕ, Some, length, slice_get}
use Rattle.branch.specs.declared.choice_edge.ChoiceEdge.{ChoiceEdge}
use Rattle.branch.specs.ChoiceEdges.{IsChoiceEdge}
use Rattle.branch.proofs.splittable.Splittable.new.Given as goal

-- the edges of the causes so far
abbrev pub invariant-loop-cause : goal.invariant-loop-cause
invariant-loop-cause l = record {
  count : length l.edges.items ≡ l.cause;
  each : (cause : ℕ) (c : ChoiceEdge) → slice_get l.edges.items cause ≡ Some c → IsChoiceEdge l.net l.number cause c;
}
