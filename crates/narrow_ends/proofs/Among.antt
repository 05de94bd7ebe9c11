-- What is found of an end, with one end more among the ends.
use Rattle.std.proofs.Common.{◌≡◌, ℤ, ◌≤ℤ◌, true, List, [], ◌∷◌, ◌++◌, Some, None, refl, sym, subst, ◌⊎◌, inl, inr, arith}
use Rattle.std.specs.Prelude.{Contains}
use Rattle.std.proofs.lemmas.Int.{ints}
use Rattle.std.proofs.lemmas.List.Elements.{Contains-append_left, Contains-push, Contains-push_cases}
use Rattle.itv_base.specs.declared.names.EdgeName.{EdgeName}
use Rattle.event_graph.specs.declared.edge.Edge.{Edge}
use Rattle.event_graph.specs.Edges.{edge}
use Rattle.event_graph.specs.Network.{Net}
use Rattle.event_graph.specs.Times.{separation}
use Rattle.drawn_networks.specs.Drawn.{Drawn}
use Rattle.narrow_ends.specs.declared.end.EndFound.{EndFound}
use Rattle.narrow_ends.specs.declared.end.EndFound.TheVariants.{Narrow, Open, Wide}
use Rattle.narrow_ends.specs.Ends.{are_alike, source_at}
use Rattle.narrow_ends.specs.Narrow.{IsAlikeEdge, IsFoundAmong, IsNeverBeyond, IsAttainable}
use Rattle.narrow_ends.specs.Step.{IsFoundOn, IsSearched}
use Rattle.narrow_ends.proofs.Sources.{source_decides}

never_beyond_more : (net : Net) (less more : ℤ) (e : Edge) → less ≤ℤ more → IsNeverBeyond net less e → IsNeverBeyond net more e
never_beyond_more net less more e le never times sat = let most : separation times e.from e.to ≤ℤ less = never times sat in omega (arith, ints, le, most)

module _ (drawn : Drawn) (names : List EdgeName) (x name : EdgeName) where
  more_alike : (e : Edge) → IsAlikeEdge drawn names name e → IsAlikeEdge drawn (names ++ x ∷ []) name e
  more_alike e a = record { other = a.other; among = Contains-append_left names (x ∷ []) a.other a.among; alike = a.alike; there = a.there }

  last_alike : (e : Edge) → are_alike drawn name x ≡ true → edge drawn.net x ≡ Some e → IsAlikeEdge drawn (names ++ x ∷ []) name e
  last_alike e alike there = record { other = x; among = Contains-push names x; alike = alike; there = there }

  alike_cases : (e : Edge) → IsAlikeEdge drawn (names ++ x ∷ []) name e → IsAlikeEdge drawn names name e ⊎ ((are_alike drawn name x ≡ true) × (edge drawn.net x ≡ Some e))
  alike_cases e a = elim (Contains-push_cases names x a.other a.among) [
    | inl before ↦ inl (record { other = a.other; among = before; alike = a.alike; there = a.there })
    | inr last ↦ inr (subst (λ (o : EdgeName). are_alike drawn name o ≡ true) (sym last) a.alike, subst (λ (o : EdgeName). edge drawn.net o ≡ Some e) (sym last) a.there)
  ]

  -- an end of another thing changes nothing
  pub other_more : (weight : ℤ) (found : EndFound) → (source_at drawn name ≡ source_at drawn x → ⊥) → IsFoundAmong drawn names name weight found
      → IsFoundAmong drawn (names ++ x ∷ []) name weight found
  other_more weight (Narrow only) other found = (
    found.0,
    (λ e a. elim (alike_cases e a) [
      | inl before ↦ found.1 e before
      | inr last ↦ absurd (other ((source_decides (source_at drawn name) (source_at drawn x)).0 last.0))
    ]),
    (found.2.0, more_alike found.2.0 found.2.1, found.2.2),
  )
  other_more weight Wide other found = (found.0, more_alike found.0 found.1, found.2)
  other_more weight Open other found = tt

  module _ (e : Edge) (there : edge drawn.net x ≡ Some e) (alike : source_at drawn name ≡ source_at drawn x) where
    are : are_alike drawn name x ≡ true
    are = (source_decides (source_at drawn name) (source_at drawn x)).1 alike

    -- the edge of the last end is this one
    last_edge : (f : Edge) → edge drawn.net x ≡ Some f → e ≡ f
    last_edge f at = cc (there, at)

    searched_on : (weight only : ℤ) (next : EndFound) → IsFoundAmong drawn names name weight (Narrow only) → IsSearched drawn.net e weight (Some only) next
        → IsFoundAmong drawn (names ++ x ∷ []) name weight next
    searched_on weight only (Narrow more) found searched = (
      searched.0 found.0,
      (λ f a. elim (alike_cases f a) [
        | inl before ↦ never_beyond_more drawn.net only more f searched.1 (found.1 f before)
        | inr last ↦ subst (IsNeverBeyond drawn.net more) (last_edge f last.1) searched.2
      ]),
      (elim searched.3 [
        | inl same ↦ (
          found.2.0,
          more_alike found.2.0 found.2.1,
          let equal : only ≡ more = cc same in subst (λ (z : ℤ). IsAttainable drawn.net z found.2.0) equal found.2.2,
        )
        | inr reached ↦ (e, last_alike e are there, reached)
      ]),
    )
    searched_on weight only Wide found searched = (e, last_alike e are there, searched)
    searched_on weight only Open found searched = tt

    -- an end of the same thing was looked at
    pub looked_on : (weight : ℤ) (found next : EndFound) → IsFoundAmong drawn names name weight found → IsFoundOn drawn.net e weight found next
        → IsFoundAmong drawn (names ++ x ∷ []) name weight next
    looked_on weight (Narrow only) next found on = searched_on weight only next found on
    looked_on weight Wide next found on = subst (IsFoundAmong drawn (names ++ x ∷ []) name weight) (sym on) (found.0, more_alike found.0 found.1, found.2)
    looked_on weight Open next found on = subst (IsFoundAmong drawn (names ++ x ∷ []) name weight) (sym on) tt

-- the first end of a thing
pub first_found : (drawn : Drawn) (names : List EdgeName) (name : EdgeName) (e : Edge) (found : EndFound) → ((other : EdgeName) → Contains names other → source_at drawn name ≡ source_at drawn other → ⊥)
    → edge drawn.net name ≡ Some e → IsSearched drawn.net e e.weight None found → IsFoundAmong drawn (names ++ name ∷ []) name e.weight found
first_found drawn names name e (Narrow only) fresh there searched = (
  searched.0 tt,
  (λ f a. elim (alike_cases drawn names name name f a) [
    | inl before ↦ absurd (fresh before.other before.among ((source_decides (source_at drawn name) (source_at drawn before.other)).0 before.alike))
    | inr last ↦ let equal : e ≡ f = cc (there, last.1) in subst (IsNeverBeyond drawn.net only) equal searched.2
  ]),
  (elim searched.3 [
    | inl none ↦ absurd (cc none)
    | inr reached ↦ (e, last_alike drawn names name name e ((source_decides (source_at drawn name) (source_at drawn name)).1 refl) there, reached)
  ]),
)
first_found drawn names name e Wide fresh there searched = (e, last_alike drawn names name name e ((source_decides (source_at drawn name) (source_at drawn name)).1 refl) there, searched)
first_found drawn names name e Open fresh there searched = tt
