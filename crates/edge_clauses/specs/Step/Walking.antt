-- Steps of a walk through a clause at hand.
use Rattle.std.specs.Prelude.{◌≡◌, ◌⊎◌, ℕ, ◌+ℤ◌, ◌≤ℤ◌, Some, slice_get}
use Rattle.itv_base.specs.declared.names.EventId.{EventId}
use Rattle.event_graph.specs.declared.edge.Edge.{Edge}
use Rattle.edge_clauses.specs.declared.walk.Walk.{Walk}
use Rattle.edge_clauses.specs.Clauses.{Clause, IsAddable}
use Rattle.edge_clauses.specs.Lines.{IsCovered}

-- an edge of the clause that is shown is at least as wide as this edge after the walk
abbrev pub IsWide : EventId → Walk → Edge → Edge → Type 0
IsWide event walk e r = (r.from ≡ e.from) × (r.to ≡ event) × ((walk.sum +ℤ e.weight) ≤ℤ r.weight)

-- the edges of a clause other than the one that the step goes through are covered
abbrev pub AreOthersCovered : EventId → Clause → Walk → ℕ → Clause → Type 0
AreOthersCovered event shown walk through c = (k : ℕ) (other : Edge) → slice_get c k ≡ Some other → (k ≡ through) ⊎ IsCovered event walk shown other

-- a step leads back through an edge of this clause, and the other edges are covered
abbrev pub StepsIn : EventId → Clause → Walk → ℕ → Clause → Walk → Type 0
StepsIn event shown walk through c next =
    (e : Edge) × (slice_get c through ≡ Some e) × (e.to ≡ walk.at) × AreOthersCovered event shown walk through c
    × (next ≡ record { at = e.from; sum = walk.sum +ℤ e.weight }) × IsAddable next.sum
