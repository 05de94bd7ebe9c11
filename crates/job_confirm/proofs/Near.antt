-- A greatest separation is below the far line: times of a greater one have a gap, which can be widened without end.
use Rattle.std.proofs.Common.{◌≡◌, ◌+◌, ◌*◌, ◌<◌, ◌≤◌, ◌⊎◌, inl, inr, ℕ, zero, suc, ℤ, pos, ◌+ℤ◌, ◌-ℤ◌, ◌≤ℤ◌, ◌<ℤ◌, Bool, true, false, int_lt, List, [], ◌∷◌, map, length, get_or, Some, slice_get, ap, ◌∙◌, refl, arith}
use Rattle.std.proofs.lemmas.Int.{ints}
use Rattle.std.proofs.lemmas.List.{length-map}
use Rattle.std.proofs.lemmas.Option.{same_Some}
use Rattle.itv_base.specs.declared.names.EventId.{EventId}
use Rattle.itv_base.proofs.Integers.{no_test_from_le, test_from_lt}
use Rattle.event_graph.specs.Bounds.{IsGreatest}
use Rattle.event_graph.specs.Network.{IsNet, Net}
use Rattle.event_graph.specs.Satisfying.{Satisfies}
use Rattle.event_graph.specs.Times.{separation, time_of}
use Rattle.event_graph.proofs.Rays.{ray_is_unbounded}
use Rattle.falling.specs.Cap.{far_line, widest_end}
use Rattle.falling.specs.Rays.{IsGapAt}
use Rattle.falling.specs.Step.Rays.{above}
use Rattle.falling.proofs.Climbing.{above_lower, above_within}
use Rattle.falling.proofs.Closing.{gap_is_ray}

-- each value is at most the level or beyond it by more than the width, or some value is above it and not beyond the width
abbrev AtGap : ℕ → ℤ → ℤ → Type 0
AtGap width level value = (value ≤ℤ level) ⊎ ((level +ℤ pos width) <ℤ value)

record IsStepUp (width : ℕ) (level : ℤ) (values : List ℤ) (place : ℕ) : Type 0 where
  within : place < length values
  up : level <ℤ get_or values place (pos 0)
  most : get_or values place (pos 0) ≤ℤ (level +ℤ pos width)

at_gap_or_not : (width : ℕ) (level value : ℤ) → AtGap width level value ⊎ ((level <ℤ value) × (value ≤ℤ (level +ℤ pos width)))
at_gap_or_not width level value = by_tests (int_lt level value) (int_lt (level +ℤ pos width) value) refl refl where
  by_tests : (a b : Bool) → int_lt level value ≡ a → int_lt (level +ℤ pos width) value ≡ b → AtGap width level value ⊎ ((level <ℤ value) × (value ≤ℤ (level +ℤ pos width)))
  by_tests false b is_a is_b = inl (inl (omega (arith, ints)))
  by_tests true true is_a is_b = inl (inr (omega (arith, ints)))
  by_tests true false is_a is_b = inr (omega (arith, ints), omega (arith, ints))

gap_or_step : (width : ℕ) (level : ℤ) (values : List ℤ) → IsGapAt (pos width) level values ⊎ ((place : ℕ) × IsStepUp width level values place)
gap_or_step width level [] = inl (λ i d within. absurd (omega arith))
gap_or_step width level (value ∷ values) = elim (at_gap_or_not width level value) [
  | inr (up, most) ↦ inr (0, record { within = omega arith; up = up; most = most })
  | inl here ↦ elim (gap_or_step width level values) [
    | inl all ↦ inl (in_front here all)
    | inr (place, step) ↦ inr (suc place, record { within = omega (arith, step.within); up = step.up; most = step.most })
  ]
] where
  in_front : AtGap width level value → IsGapAt (pos width) level values → IsGapAt (pos width) level (value ∷ values)
  in_front here all zero d within = here
  in_front here all (suc i) d within = all i d (omega arith)

-- a level at or above another, with a gap above it, so many steps of the width away
record HasGap (width fuel : ℕ) (level : ℤ) (values : List ℤ) (top : ℤ) : Type 0 where
  gap : IsGapAt (pos width) top values
  low : level ≤ℤ top
  high : top ≤ℤ (level +ℤ pos (fuel * width))

stays : (level : ℤ) (n : ℕ) → level ≤ℤ (level +ℤ pos n)
stays level n = omega (arith, ints)

next_high : (width fuel : ℕ) (level next top : ℤ) → next ≤ℤ (level +ℤ pos width) → top ≤ℤ (next +ℤ pos (fuel * width)) → top ≤ℤ (level +ℤ pos (suc fuel * width))
next_high width fuel level next top most high =
    let more : suc fuel * width ≡ fuel * width + width = grind arith in
    rw more (omega (arith, ints))

low_through : (a b c : ℤ) → a <ℤ b → b ≤ℤ c → a ≤ℤ c
low_through a b c p q = omega (arith, ints)

climb : (width fuel : ℕ) (level : ℤ) (values : List ℤ) → above level values ≤ fuel → (top : ℤ) × HasGap width fuel level values top
climb width zero level values enough = elim (gap_or_step width level values) [
  | inl gap ↦ (level, record { gap = gap; low = omega (arith, ints); high = stays level (0 * width) })
  | inr (place, step) ↦
      let fewer : above (get_or values place (pos 0)) values < above level values = above_lower values place level step.within step.up in
      absurd (omega arith)
]
climb width (suc fuel) level values enough = elim (gap_or_step width level values) [
  | inl gap ↦ (level, record { gap = gap; low = omega (arith, ints); high = stays level (suc fuel * width) })
  | inr (place, step) ↦
      let fewer : above (get_or values place (pos 0)) values < above level values = above_lower values place level step.within step.up in
      let (top, has) = climb width fuel (get_or values place (pos 0)) values (omega arith) in (
        top,
        record {
          gap = has.gap;
          low = low_through level (get_or values place (pos 0)) top step.up has.low;
          high = next_high width fuel level (get_or values place (pos 0)) top step.most has.high;
        },
      )
]

-- ---- the set of the events beyond a level

flagged : (level : ℤ) (times : List ℤ) (i : ℕ) (flag : Bool) → slice_get (map (λ time. int_lt level time) times) i ≡ Some flag
    → (i < length times) × (int_lt level (get_or times i (pos 0)) ≡ flag)
flagged level [] i flag e = absurd (cc)
flagged level (time ∷ times) zero flag e = (omega arith, same_Some (int_lt level time) flag e)
flagged level (time ∷ times) (suc i) flag e = let h = flagged level times i flag e in (omega (arith, h.0), h.1)

flag_at : (level : ℤ) (times : List ℤ) (i : ℕ) → i < length times → slice_get (map (λ time. int_lt level time) times) i ≡ Some (int_lt level (get_or times i (pos 0)))
flag_at level [] i within = absurd (omega arith)
flag_at level (time ∷ times) zero within = refl
flag_at level (time ∷ times) (suc i) within = flag_at level times i (omega arith)

apart : (width : ℕ) (level low high : ℤ) → int_lt level low ≡ false → int_lt level high ≡ true → AtGap width level high → (low +ℤ pos width) <ℤ high
apart width level low high is_low is_high (inl not) = absurd (omega (arith, ints))
apart width level low high is_low is_high (inr wide) = omega (arith, ints)

far_is_far : (events width : ℕ) (from to top value : ℤ) → 0 < events → top ≤ℤ (from +ℤ pos (events * width)) → value ≡ (to -ℤ from) → pos (events * (width + 1)) ≤ℤ value → top <ℤ to
far_is_far events width from to top value some high is far =
    let more : events * (width + 1) ≡ events * width + events = grind arith in
    let wide : pos (events * width + events) ≤ℤ value = rw more at far in
    omega (arith, ints)

-- satisfying times of a separation of at least the far line have a ray
pub far_is_unbounded : (net : Net) (from to : EventId) (times : List ℤ) → IsNet net → from.0 < net.events → to.0 < net.events → Satisfies times net
    → pos (far_line net) ≤ℤ separation times from to → (value : ℤ) → (others : List ℤ) × Satisfies others net × (value <ℤ separation others from to)
far_is_unbounded net from to times is_net in_from in_to h far =
    let (top, has) = climb (widest_end net) net.events (time_of times from) times (omega (arith, above_within times (time_of times from), h.count)) in
    let beyond : top <ℤ time_of times to = far_is_far net.events (widest_end net) (time_of times from) (time_of times to) top (separation times from to) (omega arith) has.high refl far in
    let set : List Bool = map (λ time. int_lt top time) times in
    ray_is_unbounded net from to times set
    (gap_is_ray net from to set times is_net h (length-map times (λ time. int_lt top time) ∙ h.count)
    (flag_at top times to.0 (omega (arith, h.count)) ∙ ap Some (test_from_lt top (time_of times to) beyond))
    (flag_at top times from.0 (omega (arith, h.count)) ∙ ap Some (no_test_from_le top (time_of times from) has.low))
    (λ low high at_low at_high.
    let a = flagged top times low.0 false at_low in
    let b = flagged top times high.0 true at_high in
    apart (widest_end net) top (time_of times low) (time_of times high) a.1 b.1 (has.gap high.0 (pos 0) b.0)))

pub greatest_is_near : (net : Net) (from to : EventId) (value : ℤ) → IsNet net → from.0 < net.events → to.0 < net.events → IsGreatest net from to value → value <ℤ pos (far_line net)
greatest_is_near net from to value is_net in_from in_to greatest =
    let (times, h, is) = greatest.attained in
    by_test (int_lt value (pos (far_line net))) refl times h is where
      by_test : (t : Bool) → int_lt value (pos (far_line net)) ≡ t → (times : List ℤ) → Satisfies times net → separation times from to ≡ value → value <ℤ pos (far_line net)
      by_test true e times h is = omega (arith, ints)
      by_test false e times h is =
          let far : pos (far_line net) ≤ℤ separation times from to = rw is (omega (arith, ints)) in
          let (others, also, more) = far_is_unbounded net from to times is_net in_from in_to h far value in
          absurd (exceeds value (separation others from to) more (greatest.most others also)) where
            exceeds : (a b : ℤ) → a <ℤ b → b ≤ℤ a → ⊥
            exceeds a b p q = omega (arith, ints)
