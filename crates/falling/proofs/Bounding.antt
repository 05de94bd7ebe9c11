-- The values of a derivation are never below satisfying times within the cap.
use Rattle.std.proofs.Common.{◌≡◌, ◌<◌, ◌≤◌, ◌⊎◌, inl, inr, ℕ, zero, suc, ℤ, pos, neg_ℤ, ◌+ℤ◌, ◌-ℤ◌, ◌≤ℤ◌, ◌<ℤ◌, List, [], ◌∷◌, All, Any, length, get_or, set, replicate, Option, Some, None, IsSome, IfSome, slice_get, sym, ap, ◌∙◌, refl, subst, arith}
use Rattle.std.proofs.Math.ListN.{length-set}
use Rattle.std.proofs.lemmas.Int.{ints}
use Rattle.std.proofs.lemmas.List.{get_or_default, length-replicate}
use Rattle.itv_base.specs.declared.names.EventId.{EventId}
use Rattle.itv_base.specs.declared.names.RuleKind.{RuleKind}
use Rattle.itv_base.specs.declared.names.RuleKind.TheVariants.{Lin, Late, Early}
use Rattle.itv_base.proofs.Options.{some_and}
use Rattle.event_graph.specs.declared.cause.Cause.{Cause}
use Rattle.event_graph.specs.declared.edge.Edge.{Edge}
use Rattle.event_graph.specs.Edges.{Meets, edge}
use Rattle.event_graph.specs.Network.{Net}
use Rattle.event_graph.specs.Satisfying.{Holds, HoldsAs, IsBefore, Satisfies}
use Rattle.event_graph.specs.Times.{separation, time_of}
use Rattle.event_graph.proofs.ByEdges.{satisfying_meets_always}
use Rattle.event_graph.proofs.EdgesMet.{All-found}
use Rattle.falling.specs.declared.line.FallLine.{FallLine}
use Rattle.falling.specs.declared.line.Reason.{Reason}
use Rattle.falling.specs.declared.line.Reason.TheVariants.{ByEdge, ByLatest}
use Rattle.falling.specs.Cap.{cap, far_line}
use Rattle.falling.specs.Derivation.{IsLineAllowed, IsDerivation, IsDue, IsEnded, IsLatestHigh, DerivationLeads, fallen, starting_values}
use Rattle.falling.specs.Gaps.{IsWithinCap}
use Rattle.falling.specs.Laws.{DerivationBounds, EndedIsInconsistent}
use Rattle.falling.proofs.Within.{separation_within_cap, times_near_source}

-- as many values as times, each at least the time
pub record AreAbove (values times : List ℤ) : Type 0 where
  pub count : length values ≡ length times
  pub each : (i : ℕ) → get_or times i (pos 0) ≤ℤ get_or values i (pos 0)

pub length-starting : (net : Net) (from : EventId) → length (starting_values net from) ≡ net.events
length-starting net from = length-set (replicate net.events (pos (cap net))) from.0 (pos 0) ∙ length-replicate net.events (pos (cap net))

-- what stands at a place of a list, after one place was set
pub set_at : (xs : List ℤ) (i k : ℕ) (x d : ℤ) → k < length xs → ((k ≡ i) × (get_or (set xs i x) k d ≡ x)) ⊎ ((k ≡ i → ⊥) × (get_or (set xs i x) k d ≡ get_or xs k d))
set_at [] i k x d within = absurd (omega arith)
set_at (y ∷ xs) zero zero x d within = inl (refl, refl)
set_at (y ∷ xs) zero (suc k) x d within = inr ((λ e. absurd (cc)), refl)
set_at (y ∷ xs) (suc i) zero x d within = inr ((λ e. absurd (cc)), refl)
set_at (y ∷ xs) (suc i) (suc k) x d within = elim (set_at xs i k x d (omega arith)) [
  | inl (e, here) ↦ inl (ap suc e, here)
  | inr (not, here) ↦ inr ((λ e. not (omega arith)), here)
]

pub past_end : (xs : List ℤ) (i : ℕ) (d : ℤ) → length xs ≤ i → get_or xs i d ≡ d
past_end [] i d past = refl
past_end (x ∷ xs) zero d past = absurd (omega arith)
past_end (x ∷ xs) (suc i) d past = past_end xs i d (omega arith)

pub replicated : (n i : ℕ) (x d : ℤ) → i < n → get_or (replicate n x) i d ≡ x
replicated zero i x d within = absurd (omega arith)
replicated (suc n) zero x d within = refl
replicated (suc n) (suc i) x d within = replicated n i x d (omega arith)

-- each value that is there is at least the time
above_from : (values times : List ℤ) → length values ≡ length times → ((i : ℕ) → i < length values → get_or times i (pos 0) ≤ℤ get_or values i (pos 0)) → AreAbove values times
above_from values times count each = record {
  count = count;
  each = λ i. elim (within_or_past i (length values)) [
    | inl within ↦ each i within
    | inr past ↦ rw (past_end values i (pos 0) past, past_end times i (pos 0) (omega (arith, past, count))) (omega (arith, ints))
  ];
} where
  within_or_past : (i n : ℕ) → (i < n) ⊎ (n ≤ i)
  within_or_past i n = grind arith

pub start_above : (net : Net) (from : EventId) (times : List ℤ) → from.0 < net.events → IsWithinCap net from times → AreAbove (starting_values net from) times
start_above net from times in_from within_cap =
    let count : length times ≡ net.events = within_cap.satisfies.count in
    let starting : length (starting_values net from) ≡ net.events = length-starting net from in
    above_from (starting_values net from) times (starting ∙ sym count) (λ i within.
    elim (set_at (replicate net.events (pos (cap net))) from.0 i (pos 0) (pos 0) (omega (arith, length-set (replicate net.events (pos (cap net))) from.0 (pos 0)))) [
      | inl (e, here) ↦ rw (here, e) (subst (λ z. z ≤ℤ pos 0) (sym within_cap.source) (omega (arith, ints)))
      | inr (not, here) ↦ rw (here, replicated net.events i (pos (cap net)) (pos 0) (omega arith)) (within_cap.most i (pos 0) (omega arith))
    ])

high_bounds : (high : Option ℤ) (cause_time cause_value target value : ℤ) → cause_time ≤ℤ cause_value → IsSome high → IfSome high (λ h. (cause_value +ℤ h) ≤ℤ value)
    → IfSome high (λ h. target ≤ℤ (cause_time +ℤ h)) → target ≤ℤ value
high_bounds None cause_time cause_value target value le some most before = absurd (none_is some) where
  none_is : IsSome {T = ℤ} None → ⊥
  none_is some = cc
high_bounds (Some h) cause_time cause_value target value le some most before = omega (arith, ints)

some_before : (kind : RuleKind) (times : List ℤ) (target : EventId) (causes : List Cause) → kind ≡ Late → HoldsAs kind times target causes → Any (IsBefore times target) causes
some_before Lin times target causes e h = absurd (cc)
some_before Late times target causes e h = h.1
some_before Early times target causes e h = absurd (cc)

edge_bounds : (values times : List ℤ) (e : Edge) (event : EventId) (value : ℤ) → AreAbove values times → Meets times e → e.to ≡ event → value ≡ (time_of values e.from +ℤ e.weight)
    → time_of times event ≤ℤ value
edge_bounds values times e event value above meets is_to is_value =
    let at_from : time_of times e.from ≤ℤ time_of values e.from = above.each e.from.0 in
    let met : (time_of times e.to -ℤ time_of times e.from) ≤ℤ e.weight = meets in
    rw (← is_to) (omega (arith, ints))

latest_bounds : (values times : List ℤ) (causes : List Cause) (target : EventId) (value : ℤ) → AreAbove values times → Any (IsBefore times target) causes
    → All (λ (cause : Cause). IsSome cause.range.high) causes → IsLatestHigh values causes value → time_of times target ≤ℤ value
latest_bounds values times causes target value above (i, c, within, here, before) finite latest =
    let before_here : IsBefore times target (get_or causes i c) = subst (IsBefore times target) (sym here) before in
    high_bounds (get_or causes i c).range.high (time_of times (get_or causes i c).event) (time_of values (get_or causes i c).event) (time_of times target) value
    (above.each (get_or causes i c).event.0) (finite i c within) (latest.most i c within) before_here

-- what is due is at least the time
due_above : (net : Net) (values times : List ℤ) (event : EventId) (value : ℤ) (reason : Reason) → Satisfies times net → AreAbove values times
    → IsDue net values event value reason → time_of times event ≤ℤ value
due_above net values times event value (ByEdge name) h above due =
    let (e, is_edge, (is_to, is_value)) = some_and (edge net name) _ due.1 in
    edge_bounds values times e event value above ((satisfying_meets_always net times h).each name e due.0 is_edge) is_to is_value
due_above net values times event value (ByLatest number) h above due =
    let (k, at_k, (of_event, latest)) = some_and (slice_get net.constraints number) _ due in
    let holds : Holds times k = All-found (Holds times) net.constraints number k at_k h.each in
    rw (← of_event.target) (latest_bounds values times k.causes k.target value above (some_before k.kind times k.target k.causes of_event.kind holds) of_event.finite latest)

line_above : (net : Net) (values times : List ℤ) (line : FallLine) → Satisfies times net → AreAbove values times → IsLineAllowed net values line
    → AreAbove (fallen values line) times
line_above net values times line h above allowed =
    let same : length (fallen values line) ≡ length values = length-set values line.event.0 line.value in
    above_from (fallen values line) times (same ∙ above.count) (λ i within.
    elim (set_at values line.event.0 i line.value (pos 0) (omega arith)) [
      | inl (e, here) ↦ rw (here, e) (due_above net values times line.event line.value line.reason h above allowed.due)
      | inr (not, here) ↦ rw here (above.each i)
    ])

lead_above : (net : Net) (from : EventId) (values : List ℤ) (lines : List FallLine) (after times : List ℤ) → Satisfies times net → AreAbove values times
    → DerivationLeads net from values lines after → AreAbove after times
lead_above net from values [] after times h above leads = subst (λ v. AreAbove v times) leads above
lead_above net from values (line ∷ lines) after times h above leads =
    lead_above net from (fallen values line) lines after times h (line_above net values times line h above leads.1) leads.2

-- no value of a derivation is below satisfying times within the cap
pub derived_above : (net : Net) (from : EventId) (lines : List FallLine) (values times : List ℤ) → from.0 < net.events → IsWithinCap net from times
    → IsDerivation net from lines values → AreAbove values times
derived_above net from lines values times in_from within_cap derivation =
    lead_above net from (starting_values net from) lines values times within_cap.satisfies (start_above net from times in_from within_cap) derivation

bounded : (source time value sep far : ℤ) → source ≡ pos 0 → time ≤ℤ value → value <ℤ far → ((time -ℤ source) ≡ sep) ⊎ (far ≤ℤ (time -ℤ source)) → sep ≤ℤ value
bounded source time value sep far at_zero le below (inl same) = omega (arith, ints)
bounded source time value sep far at_zero le below (inr beyond) = absurd (omega (arith, ints))

pub derivation_bounds : DerivationBounds
derivation_bounds net from to lines values times is_net in_from in_to derivation below h =
    let (others, within_cap, either) = separation_within_cap net from to times is_net in_from in_to h in
    bounded (time_of others from) (time_of others to) (time_of values to) (separation times from to) (pos (far_line net)) within_cap.source
    ((derived_above net from lines values others in_from within_cap derivation).each to.0) below either

pub ended_is_inconsistent : EndedIsInconsistent
ended_is_inconsistent net from lines values is_net in_from derivation ended times h =
    let (others, within_cap, near) = times_near_source net from times is_net in_from h in
    let above : AreAbove values others = derived_above net from lines values others in_from within_cap derivation in
    contradiction others within_cap near above ended where
      contradiction : (others : List ℤ) → IsWithinCap net from others → All (λ (time : ℤ). neg_ℤ (pos (far_line net)) ≤ℤ time) others → AreAbove values others
          → IsEnded net from values → ⊥
      contradiction others within_cap near above (inl low) = below_zero (time_of others from) (time_of values from) within_cap.source (above.each from.0) low where
        below_zero : (time value : ℤ) → time ≡ pos 0 → time ≤ℤ value → value <ℤ pos 0 → ⊥
        below_zero time value at_zero le low = omega (arith, ints)
      contradiction others within_cap near above (inr (i, value, within, here, low)) =
          below_far (get_or others i (pos 0)) (get_or values i (pos 0)) value (near i (pos 0) (omega (arith, above.count))) (above.each i) (get_or_default values i (pos 0) value within ∙ here) low where
            below_far : (time at value : ℤ) → neg_ℤ (pos (far_line net)) ≤ℤ time → time ≤ℤ at → at ≡ value → value <ℤ neg_ℤ (pos (far_line net)) → ⊥
            below_far time at value near le same low = omega (arith, ints)
