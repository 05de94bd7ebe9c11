-- Satisfying times brought near an event.
use Rattle.std.proofs.Common.{◌≡◌, ◌+◌, ◌*◌, ◌<◌, ◌≤◌, ◌⊎◌, inl, inr, ℕ, zero, suc, ℤ, pos, neg_ℤ, ◌+ℤ◌, ◌-ℤ◌, ◌≤ℤ◌, List, [], ◌∷◌, length, map, get_or, ◌∙◌, subst, arith}
use Rattle.std.proofs.lemmas.Int.{ints}
use Rattle.std.proofs.lemmas.List.{get_or-map, length-map}
use Rattle.itv_base.specs.declared.names.EventId.{EventId}
use Rattle.event_graph.specs.Network.{IsNet, Net}
use Rattle.event_graph.specs.Satisfying.{Satisfies}
use Rattle.event_graph.specs.Times.{time_of}
use Rattle.falling.specs.Cap.{cap, far_line, widest_end}
use Rattle.falling.specs.Gaps.{IsWithinCap}
use Rattle.falling.specs.Laws.{SeparationWithinCap, TimesNearSource}
use Rattle.falling.proofs.Near.{IsKept, KeepsNear, below_or_not, keeps_in, satisfies_kept}
use Rattle.falling.proofs.Removed.{IsNaturalPart, few_left, is_covered, none_or_one, kept_narrowed, narrowed, natural_part, natural_part_is, removed}

-- the narrowed times, less a number
abbrev pub narrowed_by : ℕ → List ℤ → ℤ → ℤ → List ℤ
narrowed_by width times base less = map (λ (time : ℤ). narrowed width times base time -ℤ less) times

pub at_event : (width : ℕ) (times : List ℤ) (base less : ℤ) (i : ℕ) (d : ℤ) → i < length times
    → get_or (narrowed_by width times base less) i d ≡ narrowed width times base (get_or times i (pos 0)) -ℤ less
at_event width times base less i d within = get_or-map (λ (time : ℤ). narrowed width times base time -ℤ less) times i (pos 0) d within

pub kept_less : (width : ℕ) (old a b less : ℤ) → IsKept width old (b -ℤ a) → IsKept width old ((b -ℤ less) -ℤ (a -ℤ less))
kept_less width old a b less kept = record {
  near = λ m n. let same : (b -ℤ a) ≡ old = kept.near m n in omega (arith, ints);
  wide = λ m. let least : pos width ≤ℤ (b -ℤ a) = kept.wide m in omega (arith, ints);
}

keeps_narrowed : (width : ℕ) (times : List ℤ) (base less : ℤ) → KeepsNear width (length times) times (narrowed_by width times base less)
keeps_narrowed width times base less from to in_from in_to =
    rw (at_event width times base less from.0 (pos 0) in_from, at_event width times base less to.0 (pos 0) in_to)
    (kept_less width _ _ _ less (kept_narrowed width times base from.0 to.0 in_from in_to))

pub satisfies_narrowed : (net : Net) (times : List ℤ) (base less : ℤ) → IsNet net → Satisfies times net → Satisfies (narrowed_by (widest_end net) times base less) net
satisfies_narrowed net times base less is_net h =
    satisfies_kept net times (narrowed_by (widest_end net) times base less) is_net (length-map times _ ∙ h.count)
    (keeps_in _ _ _ _ _ h.count (keeps_narrowed (widest_end net) times base less)) h

-- a value up to the base stays, and a value beyond the base stays beyond it and not far
pub record IsNarrowed (room : ℕ) (base value result : ℤ) : Type 0 where
  pub stays : value ≤ℤ base → result ≡ value
  pub least : base ≤ℤ value → base ≤ℤ result
  pub most : base ≤ℤ value → result ≤ℤ (base +ℤ pos room)

pub narrowed_is : (width : ℕ) (times : List ℤ) (base value : ℤ) → IsNarrowed (length times * width) base value (narrowed width times base value)
narrowed_is width times base value =
    narrowed_at (natural_part (value -ℤ base)) (natural_part (base -ℤ base)) (natural_part_is (value -ℤ base)) (natural_part_is (base -ℤ base)) where
      narrowed_at : (n zero_part : ℕ) → IsNaturalPart (value -ℤ base) n → IsNaturalPart (base -ℤ base) zero_part
          → IsNarrowed (length times * width) base value (value -ℤ pos (removed width times base n))
      narrowed_at n zero_part part none_part = record {
        stays = λ m. let none : n ≡ 0 = part.down (omega (arith, ints)) in rw none (omega (arith, ints));
        least = λ m.
            let at_n : (value -ℤ base) ≡ pos n = part.up (omega (arith, ints)) in
            least_of value base n (removed width times base n) at_n (few_removed n);
        most = λ m.
            let at_n : (value -ℤ base) ≡ pos n = part.up (omega (arith, ints)) in
            most_of value base n (removed width times base n) (length times * width) at_n (few_left width times base n);
      } where
        few_removed : (k : ℕ) → removed width times base k ≤ k
        few_removed zero = omega arith
        few_removed (suc k) = omega (arith, few_removed k, none_or_one (is_covered width times (base +ℤ pos k)))

        least_of : (value base : ℤ) (n gone : ℕ) → (value -ℤ base) ≡ pos n → gone ≤ n → base ≤ℤ (value -ℤ pos gone)
        least_of value base n gone at_n less = omega (arith, ints)

        most_of : (value base : ℤ) (n gone room : ℕ) → (value -ℤ base) ≡ pos n → n ≤ gone + room → (value -ℤ pos gone) ≤ℤ (base +ℤ pos room)
        most_of value base n gone room at_n few = omega (arith, ints)

pub cap_is : (net : Net) → cap net ≡ far_line net + far_line net
cap_is net = grind arith

pub room_within : (n w : ℕ) → n * w ≤ n * (w + 1)
room_within n w = grind arith

pub room_below : (n w : ℕ) → 0 < n → n * w < n * (w + 1)
room_below n w some = grind arith

-- ---- narrowed beyond the far line

abbrev beyond_far : Net → EventId → List ℤ → List ℤ
beyond_far net from times = narrowed_by (widest_end net) times (time_of times from +ℤ pos (far_line net)) (time_of times from)

beyond_is : (net : Net) (from : EventId) (times : List ℤ) (i : ℕ) (d : ℤ) → length times ≡ net.events → i < length times
    → (r : ℤ) × (get_or (beyond_far net from times) i d ≡ r -ℤ time_of times from)
    × IsNarrowed (net.events * widest_end net) (time_of times from +ℤ pos (far_line net)) (get_or times i (pos 0)) r
beyond_is net from times i d count within = (
  narrowed (widest_end net) times (time_of times from +ℤ pos (far_line net)) (get_or times i (pos 0)),
  at_event (widest_end net) times (time_of times from +ℤ pos (far_line net)) (time_of times from) i d within,
  subst (λ k. IsNarrowed (k * widest_end net) (time_of times from +ℤ pos (far_line net)) (get_or times i (pos 0))
      (narrowed (widest_end net) times (time_of times from +ℤ pos (far_line net)) (get_or times i (pos 0)))) count
      (narrowed_is (widest_end net) times (time_of times from +ℤ pos (far_line net)) (get_or times i (pos 0))),
)

below_cap : (base far room capped : ℕ) (source value r : ℤ) → room ≤ far → capped ≡ far + far → IsNarrowed room (source +ℤ pos far) value r → (r -ℤ source) ≤ℤ pos capped
below_cap base far room capped source value r less is narrow = elim (below_or_not (source +ℤ pos far) value) [
  | inl beyond ↦ let most : r ≤ℤ ((source +ℤ pos far) +ℤ pos room) = narrow.most (omega (arith, ints)) in omega (arith, ints)
  | inr near ↦ let same : r ≡ value = narrow.stays near in omega (arith, ints)
]

at_source : (far room : ℕ) (source r : ℤ) → IsNarrowed room (source +ℤ pos far) source r → (r -ℤ source) ≡ pos 0
at_source far room source r narrow = let same : r ≡ source = narrow.stays (omega (arith, ints)) in omega (arith, ints)

beyond_within : (net : Net) (from : EventId) (times : List ℤ) → IsNet net → from.0 < net.events → Satisfies times net → IsWithinCap net from (beyond_far net from times)
beyond_within net from times is_net in_from h =
    let same_length : length (beyond_far net from times) ≡ length times = length-map times _ in
    record {
      satisfies = satisfies_narrowed net times (time_of times from +ℤ pos (far_line net)) (time_of times from) is_net h;
      source =
          let (r, is, narrow) = beyond_is net from times from.0 (pos 0) h.count (omega (arith, h.count)) in
          is ∙ at_source (far_line net) (net.events * widest_end net) (time_of times from) r narrow;
      most = λ i d within.
          let (r, is, narrow) = beyond_is net from times i d h.count (omega (arith, same_length)) in
          rw is (below_cap 0 (far_line net) (net.events * widest_end net) (cap net) (time_of times from) (get_or times i (pos 0)) r
          (room_within net.events (widest_end net)) (cap_is net) narrow);
    }

kept_or_far : (far room : ℕ) (source value r_from r_to : ℤ) → IsNarrowed room (source +ℤ pos far) source r_from → IsNarrowed room (source +ℤ pos far) value r_to
    → (((r_to -ℤ source) -ℤ (r_from -ℤ source)) ≡ (value -ℤ source)) ⊎ (pos far ≤ℤ ((r_to -ℤ source) -ℤ (r_from -ℤ source)))
kept_or_far far room source value r_from r_to at_from at_to =
    let same : r_from ≡ source = at_from.stays (omega (arith, ints)) in
    elim (below_or_not (source +ℤ pos far) value) [
      | inl beyond ↦ let least : (source +ℤ pos far) ≤ℤ r_to = at_to.least (omega (arith, ints)) in inr (omega (arith, ints))
      | inr near ↦ let here : r_to ≡ value = at_to.stays near in inl (omega (arith, ints))
    ]

pub separation_within_cap : SeparationWithinCap
separation_within_cap net from to times is_net in_from in_to h =
    let (r_from, is_from, narrow_from) = beyond_is net from times from.0 (pos 0) h.count (omega (arith, h.count)) in
    let (r_to, is_to, narrow_to) = beyond_is net from times to.0 (pos 0) h.count (omega (arith, h.count)) in
    let either = kept_or_far (far_line net) (net.events * widest_end net) (time_of times from) (time_of times to) r_from r_to narrow_from narrow_to in
    (beyond_far net from times, beyond_within net from times is_net in_from h, rw (is_from, is_to) either)

-- ---- narrowed from below all times

has_floor : (times : List ℤ) → (base : ℤ) × ((i : ℕ) (d : ℤ) → i < length times → base ≤ℤ get_or times i d)
has_floor [] = (pos 0, λ i d within. absurd (omega arith))
has_floor (time ∷ times) =
    let (base, least) = has_floor times in
    elim (below_or_not base time) [
      | inl below ↦ (base, λ i d within. at_each base i d within (omega (arith, ints)) (least))
      | inr not ↦ (time, λ i d within. at_each time i d within (omega (arith, ints)) (λ j e there. lower time base (get_or times j e) not (least j e there)))
    ] where
      lower : (a b c : ℤ) → a ≤ℤ b → b ≤ℤ c → a ≤ℤ c
      lower a b c p q = omega (arith, ints)

      at_each : (base : ℤ) (i : ℕ) (d : ℤ) → i < length (time ∷ times) → base ≤ℤ time → ((j : ℕ) (e : ℤ) → j < length times → base ≤ℤ get_or times j e)
          → base ≤ℤ get_or (time ∷ times) i d
      at_each base zero d within here least = here
      at_each base (suc i) d within here least = least i d (omega arith)

abbrev from_floor : Net → EventId → List ℤ → ℤ → List ℤ
from_floor net from times base = narrowed_by (widest_end net) times base (narrowed (widest_end net) times base (time_of times from))

-- two values narrowed from below both are near each other
near_each : (room : ℕ) (base a b r s : ℤ) → base ≤ℤ a → base ≤ℤ b → IsNarrowed room base a r → IsNarrowed room base b s
    → (neg_ℤ (pos room) ≤ℤ (s -ℤ r)) × ((s -ℤ r) ≤ℤ pos room)
near_each room base a b r s at_a at_b of_a of_b =
    let least_a : base ≤ℤ r = of_a.least at_a in
    let most_a : r ≤ℤ (base +ℤ pos room) = of_a.most at_a in
    let least_b : base ≤ℤ s = of_b.least at_b in
    let most_b : s ≤ℤ (base +ℤ pos room) = of_b.most at_b in
    (omega (arith, ints), omega (arith, ints))

pub times_near_source : TimesNearSource
times_near_source net from times is_net in_from h =
    let (base, least) = has_floor times in
    let width : ℕ = widest_end net in
    let less : ℤ = narrowed (widest_end net) times base (time_of times from) in
    let count : length times ≡ net.events = h.count in
    let same_length : length (from_floor net from times base) ≡ length times = length-map times _ in
    let near = near_at net from times base in_from count least in (
      from_floor net from times base,
      record {
        satisfies = satisfies_narrowed net times base less is_net h;
        source = at_event (widest_end net) times base less from.0 (pos 0) (omega arith) ∙ same_zero less;
        most = λ i d within. within_cap (far_line net) (net.events * widest_end net) (cap net) _ (room_within net.events (widest_end net)) (cap_is net) (near i d (omega (arith, same_length))).1;
      },
      λ i d within. above_far (far_line net) (net.events * widest_end net) _ (room_within net.events (widest_end net)) (near i d (omega (arith, same_length))).0,
    ) where
      same_zero : (z : ℤ) → (z -ℤ z) ≡ pos 0
      same_zero z = omega (arith, ints)

      within_cap : (far room capped : ℕ) (z : ℤ) → room ≤ far → capped ≡ far + far → z ≤ℤ pos room → z ≤ℤ pos capped
      within_cap far room capped z less is most = omega (arith, ints)

      above_far : (far room : ℕ) (z : ℤ) → room ≤ far → neg_ℤ (pos room) ≤ℤ z → neg_ℤ (pos far) ≤ℤ z
      above_far far room z less least = omega (arith, ints)

      near_at : (net : Net) (from : EventId) (times : List ℤ) (base : ℤ) → from.0 < net.events → length times ≡ net.events → ((i : ℕ) (d : ℤ) → i < length times → base ≤ℤ get_or times i d)
          → (i : ℕ) (d : ℤ) → i < length times
          → (neg_ℤ (pos (net.events * widest_end net)) ≤ℤ get_or (from_floor net from times base) i d)
          × (get_or (from_floor net from times base) i d ≤ℤ pos (net.events * widest_end net))
      near_at net from times base in_from count least i d within =
          rw (at_event (widest_end net) times base (narrowed (widest_end net) times base (time_of times from)) i d within)
          (subst (λ k. (neg_ℤ (pos (k * widest_end net)) ≤ℤ (narrowed (widest_end net) times base (get_or times i (pos 0)) -ℤ narrowed (widest_end net) times base (time_of times from)))
          × ((narrowed (widest_end net) times base (get_or times i (pos 0)) -ℤ narrowed (widest_end net) times base (time_of times from)) ≤ℤ pos (k * widest_end net))) count
          (near_each (length times * widest_end net) base (time_of times from) (get_or times i (pos 0)) _ _ (least from.0 (pos 0) (omega arith)) (least i (pos 0) within)
          (narrowed_is (widest_end net) times base (time_of times from)) (narrowed_is (widest_end net) times base (get_or times i (pos 0)))))
