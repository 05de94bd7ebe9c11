-- Clauses: lists of edges, of which times meet one. Satisfying times meet the clause of each basis.
use Rattle.std.specs.Prelude.{◌≡◌, ◌^◌, ℤ, pos, neg_ℤ, ◌-ℤ◌, ◌≤ℤ◌, List, [], ◌∷◌, map, All, Some, IsSomeAnd, slice_get}
use Rattle.event_graph.specs.declared.edge.Edge.{Edge}
use Rattle.event_graph.specs.Edges.{IsAlways, choice_side, edge, side_edge}
use Rattle.event_graph.specs.Network.{Constraint, Net}
use Rattle.event_graph.specs.Proof.{HasChoice}
use Rattle.edge_clauses.specs.declared.basis.Basis.{Basis}
use Rattle.edge_clauses.specs.declared.basis.Basis.TheVariants.{ByEdge, Either, ByChoice, ByKept}

-- some edge of the list is met
abbrev pub Clause : Type 0
Clause = List Edge

-- a number of at most 2^60 in absolute value, so that two of them can be added
abbrev pub IsAddable : ℤ → Type 0
IsAddable z = (neg_ℤ (pos (2 ^ 60)) ≤ℤ z) × (z ≤ℤ pos (2 ^ 60))

-- the weights of a clause can be added to sums and bounds
abbrev pub IsNearClause : Clause → Type 0
IsNearClause c = All (λ (e : Edge). IsAddable e.weight) c

-- the edge that times meet if and only if they do not meet this one
abbrev pub unmet : Edge → Edge
unmet e = record { from = e.to; to = e.from; weight = neg_ℤ e.weight -ℤ pos 1 }

-- the edges of the causes of a latest or earliest constraint on the side on which times need only meet one of them; no end there is open
pub record IsChoiceClause (k : Constraint) (c : Clause) : Type 0 where
  pub choice : HasChoice k.kind
  pub edges : map (side_edge (choice_side k.kind) k.target) k.causes ≡ map Some c

-- the clause of a basis, where `kept` are the clauses that were kept
abbrev pub IsClause : Net → List Clause → Basis → Clause → Type 0
IsClause net kept (ByEdge name) c = IsAlways net name × IsSomeAnd (edge net name) (λ (e : Edge). c ≡ e ∷ [])
IsClause net kept (Either e) c = IsNearClause c × (c ≡ e ∷ unmet e ∷ [])
IsClause net kept (ByChoice number) c = IsSomeAnd (slice_get net.constraints number) (λ (k : Constraint). IsChoiceClause k c)
IsClause net kept (ByKept number) c = slice_get kept number ≡ Some c
