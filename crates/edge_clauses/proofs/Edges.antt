-- Edges that times meet, and the edges that say the opposite.
use Rattle.std.proofs.Common.{◌⊎◌, inl, inr, ℤ, pos, neg_ℤ, ◌-ℤ◌, ◌≤ℤ◌, List, All, Any, length, map, subst, ◌<◌, arith}
use Rattle.std.proofs.lemmas.Int.{ints}
use Rattle.std.proofs.lemmas.List.{get_or-map, length-map}
use Rattle.event_graph.specs.declared.edge.Edge.{Edge}
use Rattle.event_graph.specs.Edges.{Meets}
use Rattle.event_graph.specs.Times.{time_of}
use Rattle.falling.proofs.Near.{below_or_not}
use Rattle.falling.proofs.Negating.{any_map}
use Rattle.edge_clauses.proofs.Anys.{all_or_any}
use Rattle.edge_clauses.specs.Clauses.{unmet}

met_or_not : (from to weight : ℤ) → ((to -ℤ from) ≤ℤ weight) ⊎ ((from -ℤ to) ≤ℤ (neg_ℤ weight -ℤ pos 1))
met_or_not from to weight = elim (below_or_not weight (to -ℤ from)) [
  | inl beyond ↦ inr (omega (arith, ints))
  | inr within ↦ inl within
]

-- times meet an edge or the edge that says the opposite
pub met_or_unmet : (times : List ℤ) (e : Edge) → Meets times e ⊎ Meets times (unmet e)
met_or_unmet times e = met_or_not (time_of times e.from) (time_of times e.to) e.weight

-- where edges are not all met, the opposite of one is met
pub refuting_met : (times : List ℤ) (edges : List Edge) → (All (Meets times) edges → ⊥) → Any (Meets times) (map unmet edges)
refuting_met times edges none =
    elim (all_or_any (Meets times) (λ (e : Edge). Meets times (unmet e)) edges (λ i d within. met_or_unmet times _)) [
      | inl all ↦ absurd (none all)
      | inr some ↦ any_map unmet (λ (e : Edge). Meets times (unmet e)) (Meets times) edges (λ e h. h) some
    ]

-- the opposites of edges, one by one
pub each_opposite : (P : Edge → Type 0) (edges : List Edge) → All P (map unmet edges) → All (λ (e : Edge). P (unmet e)) edges
each_opposite P edges all i d within =
    let there : i < length (map unmet edges) = omega (arith, length-map edges unmet) in
    subst P (get_or-map unmet edges i d (unmet d) within) (all i (unmet d) there)
