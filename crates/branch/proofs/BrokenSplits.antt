-- If times meet the usable edges of a case, the case can be split on a constraint that they break.
use Rattle.std.proofs.Common.{◌≡◌, ◌<◌, ◌≤◌, ◌⊎◌, ℕ, ℤ, IsTrue, List, [], ◌∷◌, length, get_or, All, Contains, Some, slice_get, refl, ap, subst, inl, inr, arith}
use Rattle.std.proofs.lemmas.Bool.{cases_eq}
use Rattle.std.proofs.lemmas.List.Elements.{All-cons, All-contains, All-nil, Contains-get_or}
use Rattle.itv_base.specs.declared.names.EdgeName.{EdgeName}
use Rattle.itv_base.specs.declared.names.RuleKind.{RuleKind}
use Rattle.itv_base.specs.declared.names.RuleKind.TheVariants.{Lin, Late, Early}
use Rattle.itv_base.proofs.Options.{if_some, some_and}
use Rattle.event_graph.specs.Cases.{IsCase}
use Rattle.event_graph.specs.Edges.{Meets, choice_side, edge, holds_always}
use Rattle.event_graph.specs.Laws.{MeetsAlwaysOf, MeetsSomeChoice}
use Rattle.event_graph.specs.Network.{Constraint, IsCauseCount, IsConstraint, IsNet, Net, cause_count_of}
use Rattle.event_graph.specs.Proof.{Case, Choice, HasChoice, IsOnChoiceSide, count_causes}
use Rattle.event_graph.specs.Satisfying.{Breaks, Holds}
use Rattle.event_graph.specs.Usable.{MeetsUsable}
use Rattle.event_graph.proofs.ByEdges.{holds_by_edges}
use Rattle.event_graph.proofs.EdgesMet.{All-found}
use Rattle.event_graph.proofs.Causes.{named_all}
use Rattle.branch.specs.Step.Cases.{IsFree, IsSearchCase}

-- the constraint of a choice has its cause
abbrev HasCauseThere : Net → Choice → Type 0
HasCauseThere net choice = choice.cause < count_causes (slice_get net.constraints choice.constraint)

have_causes : (net : Net) (chosen : Case) → IsCase net chosen → All (HasCauseThere net) chosen
have_causes net [] is_case = All-nil (HasCauseThere net)
have_causes net (choice ∷ below) is_case = All-cons (HasCauseThere net) choice below is_case.1 (have_causes net below is_case.2)

linear_or_choice : (kind : RuleKind) → (HasChoice kind → ⊥) ⊎ HasChoice kind
linear_or_choice Lin = inl (λ has. has)
linear_or_choice Late = inr tt
linear_or_choice Early = inr tt

single_always : (kind : RuleKind) (count : ℕ) → HasChoice kind → count ≡ 1 → IsTrue (holds_always kind count (choice_side kind))
single_always Lin count has single = absurd has
single_always Late count has single = grind arith
single_always Early count has single = grind arith

some_causes : (kind : RuleKind) (count : ℕ) → HasChoice kind → IsCauseCount kind count → 1 ≤ count
some_causes Lin count has counted = absurd has
some_causes Late count has counted = counted.0
some_causes Early count has counted = counted.0

-- the times meet the usable edges of a case, and break a constraint of the network
module _ (net : Net) (chosen : Case) (times : List ℤ) (number : ℕ) (k : Constraint) (is_net : IsNet net) (is_case : IsSearchCase net chosen) (meets : MeetsUsable net chosen times)
    (at_k : slice_get net.constraints number ≡ Some k) (breaks : Holds times k → ⊥) where
  always_met : MeetsAlwaysOf times net number
  always_met name e is_number always is_edge = meets.each name e (inl always) is_edge

  -- no choice is met
  unmet : HasChoice k.kind → MeetsSomeChoice times net number k → ⊥
  unmet has met = breaks ((holds_by_edges net number k times is_net at_k).1 (always_met, λ _. met))

  has_choice : HasChoice k.kind
  has_choice =
      elim (linear_or_choice k.kind) [
        | inl linear ↦ absurd (breaks ((holds_by_edges net number k times is_net at_k).1 (always_met, λ has. absurd (linear has))))
        | inr has ↦ has
      ]

  met_single : length k.causes ≡ 1 → MeetsSomeChoice times net number k
  met_single single =
      let name : EdgeName = record { constraint = number; cause = 0; side = choice_side k.kind } in (
        0,
        omega arith,
        if_some (edge net name) (Meets times)
            (λ e is_edge. meets.each name e (inl (rw is_edge refl, rw at_k (single_always k.kind (length k.causes) has_choice single))) is_edge),
      )

  two_causes : 2 ≤ cause_count_of k
  two_causes =
      let is_k : IsConstraint net.events k = All-found (IsConstraint net.events) net.constraints number k at_k is_net.constraints in
      let some = some_causes k.kind (length k.causes) has_choice is_k.count in
      let named = named_all k.kind (length k.causes) has_choice in
      elim (cases_eq (length k.causes) 1) [
        | inl single ↦ absurd (unmet has_choice (met_single single))
        | inr many ↦ omega (arith, some, named)
      ]

  met_chosen : (choice : Choice) → Contains chosen choice → choice.constraint ≡ number → MeetsSomeChoice times net number k
  met_chosen choice contains same =
      let counted : count_causes (slice_get net.constraints number) ≡ length k.causes = ap count_causes at_k in
      let there : choice.cause < count_causes (slice_get net.constraints choice.constraint) = All-contains (HasCauseThere net) chosen choice (have_causes net chosen is_case.0) contains in
      let there_number : choice.cause < count_causes (slice_get net.constraints number) = subst (λ (n : ℕ). choice.cause < count_causes (slice_get net.constraints n)) same there in
      let name : EdgeName = record { constraint = number; cause = choice.cause; side = choice_side k.kind } in
      let here : Contains chosen (record { constraint = number; cause = choice.cause }) =
      subst (λ (n : ℕ). Contains chosen (record { constraint = n; cause = choice.cause })) same contains in
      let on : IsOnChoiceSide net name = rw at_k (has_choice, refl) in
      (choice.cause, omega (arith, there_number, counted), if_some (edge net name) (Meets times) (λ e is_edge. meets.each name e (inr (here, on)) is_edge))

  none_chosen : All (λ (choice : Choice). choice.constraint ≡ number → ⊥) chosen
  none_chosen i d within same = unmet has_choice (met_chosen (get_or chosen i d) (Contains-get_or chosen i d within) same)

  is_free : IsFree net chosen number
  is_free = record { may = (rw at_k has_choice, none_chosen); causes = rw at_k two_causes }

pub broken_is_free : (net : Net) (chosen : Case) (times : List ℤ) (number : ℕ) → IsNet net → IsSearchCase net chosen → MeetsUsable net chosen times → Breaks times net number
    → IsFree net chosen number
broken_is_free net chosen times number is_net is_case meets breaks =
    let found = some_and (slice_get net.constraints number) (λ (k : Constraint). Holds times k → ⊥) breaks in
    is_free net chosen times number found.0 is_net is_case meets found.1 found.2
