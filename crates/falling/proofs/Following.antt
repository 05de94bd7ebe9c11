-- The followers of events, which grow by one edge after another.
use Rattle.std.proofs.Common.{◌≡◌, ◌+◌, ◌<◌, ◌≤◌, ℕ, max, inl, inr, List, [], ◌∷◌, ◌++◌, length, set, replicate, Some, None, option_map, slice_get, All, Contains, sym, ◌∙◌, subst, refl, arith}
use Rattle.std.proofs.lemmas.Bool.{cases_eq}
use Rattle.std.proofs.lemmas.Option.{same_Some, slice_get_within}
use Rattle.std.proofs.lemmas.List.{length-replicate, length-set}
use Rattle.std.proofs.lemmas.List.Elements.{All-nil, All-push, All-same, Contains-append_left, Contains-push}
use Rattle.itv_base.specs.declared.names.EdgeName.{EdgeName}
use Rattle.itv_base.specs.declared.names.Side.{Side}
use Rattle.itv_base.specs.declared.names.Side.TheVariants.{Lower, Upper}
use Rattle.itv_base.proofs.Options.{then_some}
use Rattle.event_graph.specs.declared.edge.Edge.{Edge}
use Rattle.event_graph.specs.Edges.{edge}
use Rattle.event_graph.specs.Network.{IsNet, Net, cause_count_of}
use Rattle.event_graph.specs.EventLists.{at_event}
use Rattle.event_graph.proofs.EventLists.{each_at, empty_at, set_at}
use Rattle.falling.specs.Agenda.{AreFollowers, AreLists, HasName}
use Rattle.falling.specs.Step.Agenda.{Grows, HasCause}
use Rattle.falling.proofs.Tried.{cause_below}

pub grows_on : (net : Net) (old mid new : List (List ℕ)) → Grows net old mid → Grows net mid new → Grows net old new
grows_on net old mid new first second = record { lists = second.lists; kept = λ v n there. second.kept v n (first.kept v n there) }

pub grows_not : (net : Net) (old : List (List ℕ)) → AreLists net old → Grows net old old
grows_not net old are = record { lists = are; kept = λ v n there. there }

-- at first the lists are empty
pub empty_lists : (net : Net) (lists : List (List ℕ)) → lists ≡ replicate net.events [] → AreLists net lists
empty_lists net lists is = subst (AreLists net) (sym is) (record {
  count = simp length-replicate;
  within = λ v. All-same (λ (number : ℕ). number < length net.constraints) _ [] (empty_at net.events v) (All-nil (λ (number : ℕ). number < length net.constraints));
})

-- ---- a number joins the list of an event

-- the lists with a number at the end of the list of an event
abbrev pub with_number : List (List ℕ) → ℕ → ℕ → List (List ℕ)
with_number lists from number = set lists from (at_event lists from ++ number ∷ [])

grown : (net : Net) (lists : List (List ℕ)) (from number : ℕ) → AreLists net lists → from < length lists → number < length net.constraints
    → Grows net lists (with_number lists from number)
grown net lists from number are within there = record {
  lists = record {
    count = length-set lists from (at_event lists from ++ number ∷ []) ∙ are.count;
    within = each_at (λ v. All (λ (n : ℕ). n < length net.constraints)) lists from (at_event lists from ++ number ∷ []) within are.within
        (All-push (λ (n : ℕ). n < length net.constraints) (at_event lists from) number (are.within from) there);
  };
  kept = each_at (λ v xs. (n : ℕ) → Contains (at_event lists v) n → Contains xs n) lists from (at_event lists from ++ number ∷ []) within (λ v n has. has)
      (λ n has. Contains-append_left (at_event lists from) (number ∷ []) n has);
}

-- the constraint of an edge is in the list of the event where the edge starts
pub named : (net : Net) (lists : List (List ℕ)) (name : EdgeName) (e : Edge) → edge net name ≡ Some e → Contains (at_event lists e.from.0) name.constraint → HasName net lists name
named net lists name e is_edge there f at = subst (λ (g : Edge). Contains (at_event lists g.from.0) name.constraint) (same_Some e f (sym is_edge ∙ at)) there

-- the constraint of an edge has joined the list of the event where the edge starts
pub pushed : (net : Net) (lists : List (List ℕ)) (name : EdgeName) (e : Edge) → AreLists net lists → edge net name ≡ Some e → name.constraint < length net.constraints
    → e.from.0 < length lists → Grows net lists (with_number lists e.from.0 name.constraint) × HasName net (with_number lists e.from.0 name.constraint) name
pushed net lists name e are is_edge there within = (
  grown net lists e.from.0 name.constraint are within there,
  named net (with_number lists e.from.0 name.constraint) name e is_edge
      (subst (λ (xs : List ℕ). Contains xs name.constraint) (sym (set_at lists e.from.0 (at_event lists e.from.0 ++ name.constraint ∷ []) within))
      (Contains-push (at_event lists e.from.0) name.constraint)),
)

-- a name without an edge needs no place
pub named_not : (net : Net) (lists : List (List ℕ)) (name : EdgeName) → edge net name ≡ None → HasName net lists name
named_not net lists name none e is = absurd (none_is_some (sym none ∙ is)) where
  none_is_some : {x : Edge} → None ≡ Some x → ⊥
  none_is_some e = cc

-- ---- all names

-- the lists have the edges of every cause below a number
abbrev pub HasCausesBelow : Net → List (List ℕ) → ℕ → ℕ → Type 0
HasCausesBelow net lists number count = (cause : ℕ) → cause < count → HasCause net lists number cause

kept_name : (net : Net) (old new : List (List ℕ)) (name : EdgeName) → Grows net old new → HasName net old name → HasName net new name
kept_name net old new name grows has e is = grows.kept e.from.0 name.constraint (has e is)

-- both edges of one more cause
pub causes_more : (net : Net) (old mid new : List (List ℕ)) (number count : ℕ) → HasCausesBelow net old number count → Grows net old mid → Grows net mid new
    → HasName net mid (record { constraint = number; cause = count; side = Lower }) → HasName net new (record { constraint = number; cause = count; side = Upper })
    → HasCausesBelow net new number (count + 1)
causes_more net old mid new number count before first second lower upper =
    λ cause below name is_number is_cause.
    elim (cases_eq cause count) [
      | inl same ↦ here name is_number (is_cause ∙ same)
      | inr apart ↦ kept_name net mid new name second (kept_name net old mid name first (before cause (omega arith) name is_number is_cause))
    ]
  where
    at_side : (constraint cause : ℕ) (side : Side) → constraint ≡ number → cause ≡ count → HasName net new (record { constraint = constraint; cause = cause; side = side })
    at_side constraint cause Lower is_number is_cause = rw (is_number, is_cause) (kept_name net mid new (record { constraint = number; cause = count; side = Lower }) second lower)
    at_side constraint cause Upper is_number is_cause = rw (is_number, is_cause) upper

    here : (name : EdgeName) → name.constraint ≡ number → name.cause ≡ count → HasName net new name
    here name is_number is_cause = at_side name.constraint name.cause name.side is_number is_cause

pub all_causes : (net : Net) (lists : List (List ℕ)) (number count : ℕ) → IsNet net → option_map cause_count_of (slice_get net.constraints number) ≡ Some count
    → HasCausesBelow net lists number (max count 1) → (cause : ℕ) → HasCause net lists number cause
all_causes net lists number count is_net counted below cause name is_number is_cause e is =
    below cause (subst (λ (i : ℕ). i < max count 1) is_cause (cause_below net number name e count is_net is_number is counted)) name is_number is_cause e is

-- the lists have the edges of every constraint below a number
abbrev pub HasConstraintsBelow : Net → List (List ℕ) → ℕ → Type 0
HasConstraintsBelow net lists count = (number cause : ℕ) → number < count → HasCause net lists number cause

pub constraints_more : (net : Net) (old new : List (List ℕ)) (count : ℕ) → HasConstraintsBelow net old count → Grows net old new → ((cause : ℕ) → HasCause net new count cause)
    → HasConstraintsBelow net new (count + 1)
constraints_more net old new count before grows here =
    λ number cause below name is_number is_cause.
    elim (cases_eq number count) [
      | inl same ↦ here cause name (is_number ∙ same) is_cause
      | inr apart ↦ kept_name net old new name grows (before number cause (omega arith) name is_number is_cause)
    ]

-- all of them
pub all_constraints : (net : Net) (lists : List (List ℕ)) (count : ℕ) → length net.constraints ≤ count → AreLists net lists → HasConstraintsBelow net lists count → AreFollowers net lists
all_constraints net lists count all are below = record {
  lists = are;
  edges = λ name e is.
      let (k, at_k, rest) = then_some _ (slice_get net.constraints name.constraint) e is in
      below name.constraint name.cause (omega (arith, slice_get_within net.constraints name.constraint k at_k)) name refl refl e is;
}
