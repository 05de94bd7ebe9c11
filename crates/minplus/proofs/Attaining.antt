-- The entries of a closure are the root bounds. Times that meet the always-edges attain each entry that is a number. Where there is no number, times
-- exceed every number.
use Rattle.std.proofs.Common.{◌≡◌, ◌+◌, ◌*◌, ◌<◌, ◌^◌, ◌⊎◌, inl, inr, ℕ, zero, suc, ℤ, pos, negsuc, neg_ℤ, ◌+ℤ◌, ◌-ℤ◌, Bool, true, false, cond, List, map, length, Some, None, ◌∙◌, refl, arith}
use Rattle.std.specs.Prelude.{int_lt}
use Rattle.std.specs.Int.{int_min}
use Rattle.std.specs.List.{range_with_len}
use Rattle.std.proofs.lemmas.Bool.{cases_lt}
use Rattle.std.proofs.lemmas.Int.{ints}
use Rattle.std.proofs.lemmas.List.FromFn.{get_or-map-range_with_len, length-map-range_with_len}
use lib.Signed.{◌≤ℤ◌, ◌<ℤ◌}
use Rattle.itv_base.specs.declared.names.EventId.{EventId}
use Rattle.event_graph.specs.Network.{Net}
use Rattle.event_graph.specs.RootBound.{HasNoRoot, IsRootBound, MeetsAlways}
use Rattle.event_graph.specs.Times.{separation, time_of}
use Rattle.minplus.specs.Rows.{IsSmall}
use Rattle.minplus.specs.Matrix.{AreRootBounds, IsSquare, cells, number_of}
use Rattle.minplus.specs.Step.Entries.{BoundsAlways, Entries, IsClosedBelow, IsClosure, IsEdgeHeld, IsPresent}
use Rattle.minplus.specs.declared.rows.TheConstants.{ABSENT}
use Rattle.minplus.proofs.Numbers.{absent_from, lesser, lesser_below, small_there, there_from}
use Rattle.minplus.proofs.ClosedFurther.{AreEntries, sum_there}

-- ---- the least entry of a column
-- an entry, or another number if the entry is absent
abbrev pub or_else : ℤ → ℤ → ℤ
or_else entry other = cond (int_lt entry ABSENT) entry other

-- whether it is the entry or the other number
abbrev pub IsEither : ℤ → ℤ → Type 0
IsEither entry other = (IsPresent entry × (or_else entry other ≡ entry)) ⊎ ((IsPresent entry → ⊥) × (or_else entry other ≡ other))

pub either_of : (entry other : ℤ) → IsEither entry other
either_of entry other = by_test (int_lt entry ABSENT) refl
  where
    by_test : (t : Bool) → int_lt entry ABSENT ≡ t → IsEither entry other
    by_test true is = inl (there_from entry is, rw is refl)
    by_test false is = inr (absent_from entry is, rw is refl)

-- the least of 0 and the entries of a column in the rows below a number
pub least_below : Entries → ℕ → ℕ → ℤ
least_below entries zero to = pos 0
least_below entries (suc rows) to = int_min (least_below entries rows to) (or_else (entries rows to) (pos 0))

-- what holds of this least number
pub record IsLeastBelow (entries : Entries) (rows to : ℕ) (value : ℤ) : Type 0 where
  pub low : value ≤ℤ pos 0
  pub each : (from : ℕ) → from < rows → IsPresent (entries from to) → value ≤ℤ entries from to
  pub made : (value ≡ pos 0) ⊎ ((from : ℕ) × (from < rows) × IsPresent (entries from to) × (value ≡ entries from to))

least_further : (entries : Entries) (rows to : ℕ) (before value : ℤ) → IsLeastBelow entries rows to before → value ≡ int_min before (or_else (entries rows to) (pos 0))
    → IsLeastBelow entries (suc rows) to value
least_further entries rows to before value least is =
    let below = lesser_below before (or_else (entries rows to) (pos 0)) in
    let first : int_min before (or_else (entries rows to) (pos 0)) ≤ℤ before = below.0 in
    let second : int_min before (or_else (entries rows to) (pos 0)) ≤ℤ or_else (entries rows to) (pos 0) = below.1 in
    let before_low : before ≤ℤ pos 0 = least.low in
    record {
      low = omega (arith, ints);
      each = λ from low there. elim (cases_lt from rows) [
        | inl earlier ↦ let most : before ≤ℤ entries from to = least.each from earlier there in omega (arith, ints)
        | inr last ↦
            let same : from ≡ rows = omega arith in
            elim (either_of (entries rows to) (pos 0)) [
              | inl found ↦ let at : or_else (entries rows to) (pos 0) ≡ entries rows to = found.1 in rw same (omega (arith, ints))
              | inr none ↦ absurd (none.0 (rw same at there))
            ]
      ];
      made = elim (lesser before (or_else (entries rows to) (pos 0))) [
        | inl kept ↦ elim (least.made) [
          | inl at_zero ↦ inl (is ∙ kept ∙ at_zero)
          | inr found ↦ inr (found.0, omega (arith, found.1), found.2, is ∙ kept ∙ found.3)
        ]
        | inr new ↦ elim (either_of (entries rows to) (pos 0)) [
          | inl found ↦ inr (rows, omega arith, found.0, is ∙ new ∙ found.1)
          | inr none ↦ inl (is ∙ new ∙ none.1)
        ]
      ];
    }

least_is : (entries : Entries) (rows to : ℕ) → IsLeastBelow entries rows to (least_below entries rows to)
unfolding least_below
least_is entries zero to = record { low = omega (arith, ints); each = λ from low there. absurd (omega arith); made = inl refl }
least_is entries (suc rows) to = least_further entries rows to _ _ (least_is entries rows to) refl

-- this least number is not far below 0
least_near : (entries : Entries) (rows to : ℕ) → AreEntries entries → neg_ℤ (pos (2 ^ 61)) <ℤ least_below entries rows to
least_near entries rows to held =
    elim ((least_is entries rows to).made) [
      | inl at_zero ↦ omega (arith, ints)
      | inr found ↦
          let small = small_there _ (held found.0 to) found.2 in
          let low : neg_ℤ (pos (2 ^ 61)) <ℤ entries found.0 to = small.low in
          let is : least_below entries rows to ≡ entries found.0 to = found.3 in
          omega (arith, ints)
    ]

-- ---- an edge of a closed matrix
-- an edge from one event to another, no shorter than their entry
pub record IsStep (events : ℕ) (entries : Entries) (from to : ℕ) (weight : ℤ) : Type 0 where
  pub from_there : from < events
  pub to_there : to < events
  pub weight_small : IsSmall weight
  pub longer : entries from to ≤ℤ weight

-- the entry of the edge is present
step_there : (events : ℕ) (entries : Entries) (from to : ℕ) (weight : ℤ) → IsStep events entries from to weight → IsPresent (entries from to)
step_there events entries from to weight step =
    let high : weight <ℤ pos (2 ^ 61) = step.weight_small.high in
    let longer : entries from to ≤ℤ weight = step.longer in
    omega (arith, ints)

-- the path from a source continues over the edge
pub record GoesOn (entries : Entries) (source from to : ℕ) (weight : ℤ) : Type 0 where
  pub within : entries source to ≤ℤ (entries source from +ℤ weight)
  pub there : IsPresent (entries source to)

goes_on : (events : ℕ) (entries : Entries) (source from to : ℕ) (weight : ℤ) → AreEntries entries → IsClosedBelow events entries → IsStep events entries from to weight
    → IsPresent (entries source from) → GoesOn entries source from to weight
goes_on events entries source from to weight held closed step there =
    let second = step_there events entries from to weight step in
    let within : entries source to ≤ℤ (entries source from +ℤ entries from to) = closed from source to step.from_there there second in
    let longer : entries from to ≤ℤ weight = step.longer in
    record {
      within = omega (arith, ints);
      there = sum_there _ _ _ (held source from) (held from to) there second within;
    }

-- the least entries follow the edge
least_follows : (events : ℕ) (entries : Entries) (from to : ℕ) (weight : ℤ) → AreEntries entries → IsClosedBelow events entries → IsStep events entries from to weight
    → least_below entries events to ≤ℤ (least_below entries events from +ℤ weight)
least_follows events entries from to weight held closed step =
    elim ((least_is entries events from).made) [
      | inl at_zero ↦
          let most : least_below entries events to ≤ℤ entries from to = (least_is entries events to).each from step.from_there (step_there events entries from to weight step) in
          let longer : entries from to ≤ℤ weight = step.longer in
          omega (arith, ints)
      | inr found ↦
          let on = goes_on events entries found.0 from to weight held closed step found.2 in
          let within : entries found.0 to ≤ℤ (entries found.0 from +ℤ weight) = on.within in
          let most : least_below entries events to ≤ℤ entries found.0 to = (least_is entries events to).each found.0 found.1 on.there in
          let is : least_below entries events from ≡ entries found.0 from = found.3 in
          omega (arith, ints)
    ]

-- ---- times
-- the entry from a source, or, if it is absent, the least entry of the column lifted by a number
abbrev pub time_from : Entries → ℕ → ℕ → ℤ → ℕ → ℤ
time_from entries events source lift to = or_else (entries source to) (least_below entries events to +ℤ lift)

time_follows : (events : ℕ) (entries : Entries) (source : ℕ) (lift : ℤ) (from to : ℕ) (weight : ℤ) → pos (3 * 2 ^ 61) ≤ℤ lift → AreEntries entries → IsClosedBelow events entries
    → IsStep events entries from to weight → (time_from entries events source lift to -ℤ time_from entries events source lift from) ≤ℤ weight
time_follows events entries source lift from to weight high held closed step =
    elim (either_of (entries source from) (least_below entries events from +ℤ lift)) [
      | inl first ↦
          let on = goes_on events entries source from to weight held closed step first.0 in
          let within : entries source to ≤ℤ (entries source from +ℤ weight) = on.within in
          let start : time_from entries events source lift from ≡ entries source from = first.1 in
          elim (either_of (entries source to) (least_below entries events to +ℤ lift)) [
            | inl second ↦ let end : time_from entries events source lift to ≡ entries source to = second.1 in omega (arith, ints)
            | inr none ↦ absurd (none.0 on.there)
          ]
      | inr lifted ↦
          let start : time_from entries events source lift from ≡ (least_below entries events from +ℤ lift) = lifted.1 in
          let near : neg_ℤ (pos (2 ^ 61)) <ℤ least_below entries events from = least_near entries events from held in
          let small : neg_ℤ (pos (2 ^ 61)) <ℤ weight = step.weight_small.low in
          elim (either_of (entries source to) (least_below entries events to +ℤ lift)) [
            | inl second ↦
                let end : time_from entries events source lift to ≡ entries source to = second.1 in
                let below : entries source to <ℤ pos (2 ^ 61) = (small_there _ (held source to) second.0).high in
                omega (arith, ints)
            | inr none ↦
                let end : time_from entries events source lift to ≡ (least_below entries events to +ℤ lift) = none.1 in
                let follows : least_below entries events to ≤ℤ (least_below entries events from +ℤ weight) = least_follows events entries from to weight held closed step in
                omega (arith, ints)
          ]
    ]

times_from : Entries → ℕ → ℕ → ℤ → List ℤ
times_from entries events source lift = map (time_from entries events source lift) (range_with_len 0 events)

time_is : (entries : Entries) (events source : ℕ) (lift : ℤ) (event : EventId) → event.0 < events → time_of (times_from entries events source lift) event ≡ time_from entries events source lift event.0
unfolding times_from
time_is entries events source lift event below = get_or-map-range_with_len (time_from entries events source lift) 0 events event.0 event.0 (pos 0) below (omega arith)

times_count : (entries : Entries) (events source : ℕ) (lift : ℤ) → length (times_from entries events source lift) ≡ events
unfolding times_from
times_count entries events source lift = length-map-range_with_len (time_from entries events source lift) 0 events

-- the times meet each always-edge
times_meet : (net : Net) (entries : Entries) (source : ℕ) (lift : ℤ) → pos (3 * 2 ^ 61) ≤ℤ lift → IsClosure net entries → MeetsAlways (times_from entries net.events source lift) net
times_meet net entries source lift high closure = record {
  count = times_count entries net.events source lift;
  each = λ name e always is.
      let held : IsEdgeHeld net.events entries e = closure.edges name e always is in
      let step : IsStep net.events entries e.from.0 e.to.0 e.weight = record { from_there = held.from; to_there = held.to; weight_small = held.small; longer = held.longer } in
      let follows = time_follows net.events entries source lift e.from.0 e.to.0 e.weight high closure.held closure.closed step in
      let start : time_of (times_from entries net.events source lift) e.from ≡ time_from entries net.events source lift e.from.0 = time_is entries net.events source lift e.from held.from in
      let end : time_of (times_from entries net.events source lift) e.to ≡ time_from entries net.events source lift e.to.0 = time_is entries net.events source lift e.to held.to in
      rw (start, end) follows;
}

-- how far these times separate an event from the source
source_time : (net : Net) (entries : Entries) (source : EventId) (lift : ℤ) → IsClosure net entries → source.0 < net.events → time_of (times_from entries net.events source.0 lift) source ≡ pos 0
source_time net entries source lift closure below =
    let at_zero : entries source.0 source.0 ≡ pos 0 = closure.diagonal source.0 below in
    elim (either_of (entries source.0 source.0) (least_below entries net.events source.0 +ℤ lift)) [
      | inl found ↦ time_is entries net.events source.0 lift source below ∙ found.1 ∙ at_zero
      | inr none ↦ absurd (none.0 (omega (arith, ints)))
    ]

there_separation : (net : Net) (entries : Entries) (from to : EventId) (lift : ℤ) → IsClosure net entries → from.0 < net.events → to.0 < net.events → IsPresent (entries from.0 to.0)
    → separation (times_from entries net.events from.0 lift) from to ≡ entries from.0 to.0
there_separation net entries from to lift closure from_below to_below there =
    let start : time_of (times_from entries net.events from.0 lift) from ≡ pos 0 = source_time net entries from lift closure from_below in
    elim (either_of (entries from.0 to.0) (least_below entries net.events to.0 +ℤ lift)) [
      | inl found ↦
          let end : time_of (times_from entries net.events from.0 lift) to ≡ entries from.0 to.0 = time_is entries net.events from.0 lift to to_below ∙ found.1 in
          omega (arith, ints)
      | inr none ↦ absurd (none.0 there)
    ]

lifted_separation : (net : Net) (entries : Entries) (from to : EventId) (lift : ℤ) → IsClosure net entries → from.0 < net.events → to.0 < net.events → (IsPresent (entries from.0 to.0) → ⊥)
    → separation (times_from entries net.events from.0 lift) from to ≡ (least_below entries net.events to.0 +ℤ lift)
lifted_separation net entries from to lift closure from_below to_below absent =
    let start : time_of (times_from entries net.events from.0 lift) from ≡ pos 0 = source_time net entries from lift closure from_below in
    elim (either_of (entries from.0 to.0) (least_below entries net.events to.0 +ℤ lift)) [
      | inl found ↦ absurd (absent found.0)
      | inr none ↦
          let end : time_of (times_from entries net.events from.0 lift) to ≡ (least_below entries net.events to.0 +ℤ lift) = time_is entries net.events from.0 lift to to_below ∙ none.1 in
          omega (arith, ints)
    ]

-- ---- root bounds
-- a lift that exceeds a value
lift_past : ℤ → ℤ
lift_past (pos n) = pos (3 * 2 ^ 61 + n)
lift_past (negsuc n) = pos (3 * 2 ^ 61)

past_high : (value : ℤ) → pos (3 * 2 ^ 61) ≤ℤ lift_past value
unfolding lift_past
past_high (pos n) = omega (arith, ints)
past_high (negsuc n) = omega (arith, ints)

past_value : (value : ℤ) → (pos (3 * 2 ^ 61) +ℤ value) ≤ℤ lift_past value
unfolding lift_past
past_value (pos n) = omega (arith, ints)
past_value (negsuc n) = omega (arith, ints)

number_bound : (net : Net) (entries : Entries) (from to : EventId) → IsClosure net entries → from.0 < net.events → to.0 < net.events → IsPresent (entries from.0 to.0)
    → IsRootBound net from to (Some (entries from.0 to.0))
number_bound net entries from to closure from_below to_below there =
    let lift : ℤ = pos (3 * 2 ^ 61) in
    record {
      attained = (
        times_from entries net.events from.0 lift,
        times_meet net entries from.0 lift (omega (arith, ints)) closure,
        there_separation net entries from to lift closure from_below to_below there,
      );
      most = λ times met. closure.bounds times met from.0 to.0 there;
    }

no_bound : (net : Net) (entries : Entries) (from to : EventId) → IsClosure net entries → from.0 < net.events → to.0 < net.events → (IsPresent (entries from.0 to.0) → ⊥) → IsRootBound net from to None
no_bound net entries from to closure from_below to_below absent value =
    let lift : ℤ = lift_past value in
    let is : separation (times_from entries net.events from.0 lift) from to ≡ (least_below entries net.events to.0 +ℤ lift) = lifted_separation net entries from to lift closure from_below to_below absent in
    let near : neg_ℤ (pos (2 ^ 61)) <ℤ least_below entries net.events to.0 = least_near entries net.events to.0 closure.held in
    let past : (pos (3 * 2 ^ 61) +ℤ value) ≤ℤ lift = past_value value in
    (times_from entries net.events from.0 lift, times_meet net entries from.0 lift (past_high value) closure, omega (arith, ints))

-- the entries of a closure are the root bounds
pub root_bound : (net : Net) (entries : Entries) (from to : EventId) → IsClosure net entries → from.0 < net.events → to.0 < net.events → IsRootBound net from to (number_of (entries from.0 to.0))
root_bound net entries from to closure from_below to_below = by_test (int_lt (entries from.0 to.0) ABSENT) refl
  where
    by_test : (t : Bool) → int_lt (entries from.0 to.0) ABSENT ≡ t → IsRootBound net from to (cond t (Some (entries from.0 to.0)) None)
    by_test true is = number_bound net entries from to closure from_below to_below (there_from _ is)
    by_test false is = no_bound net entries from to closure from_below to_below (absent_from _ is)

-- a negative entry of the diagonal leaves no times
pub no_root : (net : Net) (entries : Entries) (event : ℕ) → BoundsAlways net entries → entries event event <ℤ pos 0 → HasNoRoot net
no_root net entries event bounds negative times met =
    let there : IsPresent (entries event event) = omega (arith, ints) in
    let most : separation times (record { 0 = event }) (record { 0 = event }) ≤ℤ entries event event = bounds times met event event there in
    omega (arith, ints)

-- there are times for a closure
pub has_root : (net : Net) (entries : Entries) → IsClosure net entries → (times : List ℤ) × MeetsAlways times net
has_root net entries closure =
    let lift : ℤ = pos (3 * 2 ^ 61) in
    (times_from entries net.events 0 lift, times_meet net entries 0 lift (omega (arith, ints)) closure)

-- the rows of a closure are the root bounds of all pairs
pub are_root_bounds : (net : Net) (rows : List (List ℤ)) → IsSquare net.events rows → IsClosure net (cells rows) → AreRootBounds net rows
are_root_bounds net rows square closure = record { square = square; bounds = λ from to from_below to_below. root_bound net (cells rows) from to closure from_below to_below }
