-- The lists of always-edges, which grow by one name after another.
use Rattle.std.proofs.Common.{◌≡◌, ℕ, ◌+◌, ◌<◌, ◌≤ℤ◌, max, ◌<ℤ◌, inl, inr, List, [], ◌∷◌, ◌++◌, length, get_or, set, replicate, Some, option_map, slice_get, All, Contains, sym, ◌∙◌, ap, subst, refl, arith}
use Rattle.std.proofs.lemmas.Int.{ints}
use Rattle.std.proofs.lemmas.Bool.{cases_eq}
use Rattle.std.proofs.lemmas.Option.{option_and_then_some, same_Some, slice_get_within}
use Rattle.std.proofs.lemmas.List.{get_or-set_other, get_or_default, length-replicate, length-set, set-get_or}
use Rattle.std.proofs.lemmas.List.Elements.{All-contains, All-nil, All-same, Contains-append_left, Contains-get_or, Contains-push, Contains-push_cases}
use Rattle.std.proofs.lemmas.Grind.{get_or-set_at}
use Rattle.itv_base.specs.declared.names.EdgeName.{EdgeName}
use Rattle.itv_base.specs.declared.names.Side.{Side}
use Rattle.itv_base.specs.declared.names.Side.TheVariants.{Lower, Upper}
use Rattle.event_graph.specs.declared.edge.Edge.{Edge}
use Rattle.event_graph.specs.Edges.{IsAlways}
use Rattle.event_graph.specs.Network.{IsConstraint, IsNet, Net, cause_count_of, named_causes}
use Rattle.event_graph.proofs.EdgesMet.{All-found, cause_of}
use Rattle.diff_bounds.specs.declared.arc.Arc.{Arc}
use Rattle.event_graph.specs.EventLists.{at_event}
use Rattle.event_graph.proofs.EventLists.{each_at, empty_at, set_at}
use Rattle.event_graph.proofs.Causes.{cause_within}
use Rattle.diff_bounds.specs.Arcs.{AreAlwaysArcs, HasLight, IsArc}
use Rattle.diff_bounds.specs.Step.Listing.{AreArcsSoFar, Grows, HasCause, HasName, IsPlaceOf, HasJoined, JoinsAt}

pub grows_on : (net : Net) (old mid new : List (List Arc)) → Grows net old mid → Grows net mid new → Grows net old new
grows_on net old mid new first second = record { arcs = second.arcs; kept = λ v e light. second.kept v e (first.kept v e light) }

pub grows_not : (net : Net) (old : List (List Arc)) → AreArcsSoFar net old → Grows net old old
grows_not net old are = record { arcs = are; kept = λ v e light. light }

-- at first the lists are empty
pub empty_arcs : (net : Net) → AreArcsSoFar net (replicate net.events [])
empty_arcs net = record {
  count = simp length-replicate;
  each = λ v. All-same (IsArc net) _ [] (empty_at net.events v) (All-nil (IsArc net));
  starts = λ v. All-same (λ (a : Arc). a.edge.from.0 ≡ v) _ [] (empty_at net.events v) (All-nil (λ (a : Arc). a.edge.from.0 ≡ v));
  sound = λ v. All-same (λ (a : Arc). IsAlways net a.name) _ [] (empty_at net.events v) (All-nil (λ (a : Arc). IsAlways net a.name));
}

-- ---- an edge joins a list

heavier_stays : (a b : Arc) (e : Edge) → a.edge.to ≡ e.to → a.edge.weight ≤ℤ e.weight → b.edge.to ≡ a.edge.to → b.edge.weight ≤ℤ a.edge.weight → (b.edge.to ≡ e.to) × (b.edge.weight ≤ℤ e.weight)
heavier_stays a b e to light same lighter = (same ∙ to, omega (arith, ints))

itself_light : (a : Arc) → a.edge.weight ≤ℤ a.edge.weight
itself_light a = omega (arith, ints)

pub joins_end : (arc : Arc) (list : List Arc) → HasJoined arc list (list ++ arc ∷ [])
joins_end arc list = record {
  among = λ k d below.
      elim (Contains-push_cases list arc (get_or (list ++ arc ∷ []) k d) (Contains-get_or (list ++ arc ∷ []) k d below)) [ inl was ↦ inl was | inr same ↦ inr (sym same) ];
  kept = λ e light. (light.0, Contains-append_left list (arc ∷ []) light.0 light.1, light.2, light.3);
  light = (arc, Contains-push list arc, refl, itself_light arc);
}

set_contains : (list : List Arc) (place : ℕ) (arc : Arc) → place < length list → Contains (set list place arc) arc
set_contains list place arc within = (place, rw length-set within, get_or-set_at list place place arc arc refl within)

pub joins_place : (arc : Arc) (list : List Arc) (place : ℕ) (other : Arc) → place < length list → other ≡ get_or list place other → other.edge.to ≡ arc.edge.to → arc.edge.weight ≤ℤ other.edge.weight
    → HasJoined arc list (set list place arc)
joins_place arc list place other within is to lighter = record {
  among = λ k d below. elim (cases_eq k place) [
    | inl same ↦ inr (get_or-set_at list place k arc d same within)
    | inr off ↦ let P : Arc → Type 0 = λ x. Contains list x in
        inl (subst P (sym (get_or-set_other list place k arc d off)) (Contains-get_or list k d (rw length-set at below)))
  ];
  kept = λ e light. kept_light e light.0 light.1 light.2 light.3;
  light = (arc, set_contains list place arc within, refl, itself_light arc);
}
  where
    kept_light : (e : Edge) (a : Arc) → Contains list a → a.edge.to ≡ e.to → a.edge.weight ≤ℤ e.weight → HasLight (set list place arc) e
    kept_light e a (k, below, at) a_to a_light =
        elim (cases_eq k place) [
          | inl same ↦
              let was : other ≡ a = is ∙ get_or_default list place other a within ∙ ap (λ (i : ℕ). get_or list i a) (sym same) ∙ at in
              let to_same : other.edge.to ≡ a.edge.to = ap (λ (x : Arc). x.edge.to) was in
              let weight_same : other.edge.weight ≡ a.edge.weight = ap (λ (x : Arc). x.edge.weight) was in
              let both = heavier_stays a arc e a_to a_light (sym to ∙ to_same) (omega (arith, ints)) in
              (arc, set_contains list place arc within, both.0, both.1)
          | inr off ↦ (a, (k, rw length-set below, get_or-set_other list place k arc a off ∙ at), a_to, a_light)
        ]

pub joins_not : (arc : Arc) (list : List Arc) (place : ℕ) (other : Arc) → place < length list → other ≡ get_or list place other → other.edge.to ≡ arc.edge.to → other.edge.weight ≤ℤ arc.edge.weight → HasJoined arc list list
joins_not arc list place other within is to light = record {
  among = λ k d below. inl (Contains-get_or list k d below);
  kept = λ e light. light;
  light = (other, (place, within, sym is), to, light);
}

-- ---- a list in the lists

pub joined_end : (arc : Arc) (old new : List (List Arc)) → new ≡ set old arc.edge.from.0 (at_event old arc.edge.from.0 ++ arc ∷ []) → JoinsAt arc old new
joined_end arc old new is = record { list = at_event old arc.edge.from.0 ++ arc ∷ []; is = is; joins = joins_end arc (at_event old arc.edge.from.0) }

pub joined_place : (arc : Arc) (old new : List (List Arc)) (list : List Arc) (place : ℕ) (d : Arc) → list ≡ at_event old arc.edge.from.0 → IsPlaceOf list arc.edge.to place
    → arc.edge.weight <ℤ (get_or list place d).edge.weight → new ≡ set old arc.edge.from.0 (set (at_event old arc.edge.from.0) place arc) → JoinsAt arc old new
joined_place arc old new list place d of there lighter is = record {
  list = set list place arc;
  is = is ∙ ap (λ (xs : List Arc). set old arc.edge.from.0 (set xs place arc)) (sym of);
  joins = subst (λ (xs : List Arc). HasJoined arc xs (set list place arc)) of
      (joins_place arc list place (get_or list place d) there.0 (get_or_default list place d _ there.0) (there.1 d) (omega (arith, ints)));
}

pub joined_not : (arc : Arc) (old : List (List Arc)) (list : List Arc) (place : ℕ) (d : Arc) → list ≡ at_event old arc.edge.from.0 → IsPlaceOf list arc.edge.to place
    → (get_or list place d).edge.weight ≤ℤ arc.edge.weight → JoinsAt arc old old
joined_not arc old list place d of there light = record {
  list = at_event old arc.edge.from.0;
  is = sym (set-get_or old arc.edge.from.0 []);
  joins = subst (λ (xs : List Arc). HasJoined arc xs xs) of
      (joins_not arc list place (get_or list place d) there.0 (get_or_default list place d _ there.0) (there.1 d) light);
}

joined_all : (P : Arc → Type 0) (arc : Arc) (old new : List Arc) → HasJoined arc old new → All P old → P arc → All P new
joined_all P arc old new joins all here k d below =
    elim (joins.among k d below) [ inl was ↦ All-contains P old (get_or new k d) all was | inr same ↦ subst P (sym same) here ]

-- one more always-edge has joined the list of the event where it starts
grown : (net : Net) (out : List (List Arc)) (from : ℕ) (list : List Arc) (a : Arc) → AreArcsSoFar net out → from < length out → IsArc net a → IsAlways net a.name → a.edge.from.0 ≡ from
    → HasJoined a (at_event out from) list → Grows net out (set out from list)
grown net out from list a are within arc is_always starts joins = record {
  arcs = record {
    count = length-set out from list ∙ are.count;
    each = each_at (λ v. All (IsArc net)) out from list within are.each (joined_all (IsArc net) a (at_event out from) list joins (are.each from) arc);
    starts = each_at (λ v. All (λ (x : Arc). x.edge.from.0 ≡ v)) out from list within are.starts
        (joined_all (λ (x : Arc). x.edge.from.0 ≡ from) a (at_event out from) list joins (are.starts from) starts);
    sound = each_at (λ v. All (λ (x : Arc). IsAlways net x.name)) out from list within are.sound
        (joined_all (λ (x : Arc). IsAlways net x.name) a (at_event out from) list joins (are.sound from) is_always);
  };
  kept = each_at (λ v xs. (e : Edge) → HasLight (at_event out v) e → HasLight xs e) out from list within (λ v e light. light) joins.kept;
}

-- the edge of a name has joined the list of the event where it starts
pub pushed : (net : Net) (old new : List (List Arc)) (name : EdgeName) (e : Edge) → AreArcsSoFar net old → IsAlways net name → IsArc net (record { name = name; edge = e })
    → JoinsAt (record { name = name; edge = e }) old new → Grows net old new × HasName net new name
pushed net old new name e are is_always arc at = (
  subst (Grows net old) (sym at.is) (grown net old e.from.0 at.list (record { name = name; edge = e }) are within arc is_always refl at.joins),
  λ f named is. subst (λ (x : Edge). HasLight (at_event new x.from.0) x) (same_Some e f (sym arc.is ∙ is))
      (subst (λ (xs : List Arc). HasLight xs e) (sym (ap (λ (out : List (List Arc)). at_event out e.from.0) at.is ∙ set_at old e.from.0 at.list within)) at.joins.light),
)
  where
    within : e.from.0 < length old
    within = omega (arith, arc.within.from, are.count)

-- an edge that is no always-edge needs no place
pub named_not : (net : Net) (out : List (List Arc)) (name : EdgeName) → (IsAlways net name → ⊥) → HasName net out name
named_not net out name never e is_always is = absurd (never is_always)

-- ---- all names

-- the lists have the edges of every cause below a number
abbrev pub HasCausesBelow : Net → List (List Arc) → ℕ → ℕ → Type 0
HasCausesBelow net out constraint count = (cause : ℕ) → cause < count → HasCause net out constraint cause

kept_name : (net : Net) (old new : List (List Arc)) (name : EdgeName) → Grows net old new → HasName net old name → HasName net new name
kept_name net old new name grows has e is_always is = grows.kept e.from.0 e (has e is_always is)

-- both edges of one more cause
pub causes_more : (net : Net) (old mid new : List (List Arc)) (constraint count : ℕ) → HasCausesBelow net old constraint count → Grows net old mid → Grows net mid new
    → HasName net mid (record { constraint = constraint; cause = count; side = Lower }) → HasName net new (record { constraint = constraint; cause = count; side = Upper }) → HasCausesBelow net new constraint (count + 1)
causes_more net old mid new constraint count before first second lower upper =
    λ cause below side.
    elim (cases_eq cause count) [
      | inl same ↦ here cause same side
      | inr apart ↦ kept_name net mid new _ second (kept_name net old mid _ first (before cause (omega arith) side))
    ]
  where
    here : (cause : ℕ) → cause ≡ count → (side : Side) → HasName net new (record { constraint = constraint; cause = cause; side = side })
    here cause same Lower = subst (λ (i : ℕ). HasName net new (record { constraint = constraint; cause = i; side = Lower })) (sym same) (kept_name net mid new _ second lower)
    here cause same Upper = subst (λ (i : ℕ). HasName net new (record { constraint = constraint; cause = i; side = Upper })) (sym same) upper

pub all_causes : (net : Net) (out : List (List Arc)) (constraint count : ℕ) → IsNet net → option_map cause_count_of (slice_get net.constraints constraint) ≡ Some count
    → HasCausesBelow net out constraint (max count 1) → (cause : ℕ) → HasCause net out constraint cause
all_causes net out constraint count is_net counted below cause side e is_always is =
    option_and_then_some _ _ _ is
    (λ c at _.
    let found = cause_of net (record { constraint = constraint; cause = cause; side = side }) c e at is in
    let allowed = All-found (IsConstraint net.events) net.constraints constraint c at is_net.constraints in
    let named : named_causes c.kind (length c.causes) ≡ count = same_Some _ _ (ap (option_map cause_count_of) (sym at) ∙ counted) in
    below cause (cause_within c.kind cause (length c.causes) count (slice_get_within _ _ _ found.1) allowed.count named) side e is_always is)

-- the lists have the edges of every constraint below a number
abbrev pub HasConstraintsBelow : Net → List (List Arc) → ℕ → Type 0
HasConstraintsBelow net out count = (constraint cause : ℕ) → constraint < count → HasCause net out constraint cause

pub constraints_more : (net : Net) (old new : List (List Arc)) (count : ℕ) → HasConstraintsBelow net old count → Grows net old new → ((cause : ℕ) → HasCause net new count cause) → HasConstraintsBelow net new (count + 1)
constraints_more net old new count before grows here =
    λ constraint cause below side.
    elim (cases_eq constraint count) [
      | inl same ↦ subst (λ (k : ℕ). HasCause net new k cause) (sym same) (here cause) side
      | inr apart ↦ kept_name net old new _ grows (before constraint cause (omega arith) side)
    ]

-- the lists have the edges of all constraints
pub all_constraints : (net : Net) (out : List (List Arc)) → AreArcsSoFar net out → HasConstraintsBelow net out (length net.constraints) → AreAlwaysArcs net out
all_constraints net out are below = record {
  count = are.count;
  each = are.each;
  starts = are.starts;
  sound = are.sound;
  complete = λ name e is_always is.
      option_and_then_some _ _ _ is (λ c at _. below name.constraint name.cause (slice_get_within net.constraints name.constraint c at) name.side e is_always is);
}
