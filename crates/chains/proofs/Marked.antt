-- Constraints that are marked, one after another.
use Rattle.std.proofs.Common.{◌≡◌, ◌<◌, ◌≤◌, ◌⊎◌, inl, inr, ℕ, Bool, true, false, List, [], ◌∷◌, ◌++◌, Contains, length, set, sym, ap, ◌∙◌, refl, subst, arith}
use Rattle.std.proofs.lemmas.Bool.{cases_eq}
use Rattle.std.proofs.lemmas.Grind.{get_or-set_at}
use Rattle.std.proofs.lemmas.List.{get_or-set_other, length-set}
use Rattle.std.proofs.lemmas.List.Elements.{Contains-append_left, Contains-push, Contains-push_cases}
use Rattle.itv_base.specs.declared.names.EdgeName.{EdgeName}
use Rattle.event_graph.specs.Proof.{Loop, Path, Split}
use Rattle.chains.specs.Named.{HasEdgeOf, HasMarked}

-- a flag is set
pub marked_one : (old : List Bool) (number : ℕ) → number < length old → HasMarked old (Split number ∷ []) (set old number true)
marked_one old number within = record {
  count = length-set old number true;
  kept = λ n is_in. elim (cases_eq n number) [
    | inl same ↦ get_or-set_at old number n true false same within
    | inr other ↦ get_or-set_other old number n true false other ∙ is_in
  ];
  named = λ n below some. elim some [ inl same ↦ get_or-set_at old number n true false (sym same) within | inr none ↦ absurd none ];
  fresh = λ n is_in. elim (cases_eq n number) [
    | inl same ↦ inr (inl (sym same))
    | inr other ↦ inl (sym (get_or-set_other old number n true false other) ∙ is_in)
  ];
}

-- there is no flag
pub marked_past : (old : List Bool) (number : ℕ) → length old ≤ number → HasMarked old (Split number ∷ []) old
marked_past old number past = record {
  count = refl;
  kept = λ n is_in. is_in;
  named = λ n below some. elim some [ inl same ↦ absurd (omega arith) | inr none ↦ absurd none ];
  fresh = λ n is_in. inl is_in;
}

-- ---- edges

edge_in : (names : List EdgeName) (number : ℕ) → HasEdgeOf names number → (name : EdgeName) × Contains names name × (name.constraint ≡ number)
edge_in names number (k, name, within, here, is) = (name, (k, within, here), is)

in_edges : (names : List EdgeName) (number : ℕ) (name : EdgeName) → Contains names name → name.constraint ≡ number → HasEdgeOf names number
in_edges names number name (k, within, here) is = (k, name, within, here, is)

no_edge : (number : ℕ) → HasEdgeOf [] number → ⊥
no_edge number (k, name, within, here, is) = omega arith

pub edges_none : (old : List Bool) → HasMarked old (Path [] ∷ []) old
edges_none old = record {
  count = refl;
  kept = λ n is_in. is_in;
  named = λ n below some. elim some [ inl has ↦ absurd (no_edge n has) | inr none ↦ absurd none ];
  fresh = λ n is_in. inl is_in;
}

edge_more : (names : List EdgeName) (name : EdgeName) (number : ℕ) → HasEdgeOf (names ++ name ∷ []) number → HasEdgeOf names number ⊎ (name.constraint ≡ number)
edge_more names name number has =
    let (found, there, is) = edge_in (names ++ name ∷ []) number has in
    elim (Contains-push_cases names name found there) [
      | inl before ↦ inl (in_edges names number found before is)
      | inr same ↦ inr (ap (λ (n : EdgeName). n.constraint) same ∙ is)
    ]

edge_left : (names : List EdgeName) (name : EdgeName) (number : ℕ) → HasEdgeOf names number → HasEdgeOf (names ++ name ∷ []) number
edge_left names name number has =
    let (found, there, is) = edge_in names number has in
    in_edges (names ++ name ∷ []) number found (Contains-append_left names (name ∷ []) found there) is

-- the constraint of one more edge is marked
pub edges_more : (old mid new : List Bool) (names : List EdgeName) (name : EdgeName) → HasMarked old (Path names ∷ []) mid
    → HasMarked mid (Split name.constraint ∷ []) new → HasMarked old (Path (names ++ name ∷ []) ∷ []) new
edges_more old mid new names name before next = record {
  count = next.count ∙ before.count;
  kept = λ n is_in. next.kept n (before.kept n is_in);
  named = λ n below some. elim some [
    | inl has ↦ elim (edge_more names name n has) [
      | inl first ↦ next.kept n (before.named n (subst (λ m. n < m) next.count below) (inl first))
      | inr last ↦ next.named n below (inl last)
    ]
    | inr none ↦ absurd none
  ];
  fresh = λ n is_in. elim (next.fresh n is_in) [
    | inl marked ↦ elim (before.fresh n marked) [
      | inl was ↦ inl was
      | inr some ↦ elim some [ inl has ↦ inr (inl (edge_left names name n has)) | inr none ↦ absurd none ]
    ]
    | inr some ↦ elim some [
      | inl is ↦ inr (inl (in_edges (names ++ name ∷ []) n name (Contains-push names name) is))
      | inr none ↦ absurd none
    ]
  ];
}

-- a loop names what the path of its edges names
pub marked_loop : (old new : List Bool) (names : List EdgeName) → HasMarked old (Path names ∷ []) new → HasMarked old (Loop names ∷ []) new
marked_loop old new names marked = record { count = marked.count; kept = marked.kept; named = marked.named; fresh = marked.fresh }
