-- Raising the events of a set, one after another.
use Rattle.std.proofs.Common.{◌≡◌, ◌+◌, ◌*◌, ◌<◌, ◌≤◌, ◌⊎◌, ℕ, zero, suc, ℤ, pos, negsuc, ◌+ℤ◌, ◌-ℤ◌, ◌≤ℤ◌, ◌<ℤ◌, Bool, true, false, if◌then◌else◌, List, [], ◌∷◌, length, get_or, set, take, All, Some, slice_get, refl, sym, ap, ◌∙◌, subst, inl, inr, arith}
use Rattle.std.proofs.Common.{get_or-set_other}
use Rattle.std.proofs.lemmas.Int.{ints}
use Rattle.std.proofs.lemmas.Bool.{cases_eq}
use Rattle.std.proofs.lemmas.List.Elements.{All-from_get_or, All-weaker}
use Rattle.std.proofs.lemmas.Option.{get_or_from_slice_get, slice_get-get_or, slice_get_within}
use Rattle.itv_base.specs.declared.names.EventId.{EventId}
use Rattle.event_graph.specs.Times.{IsTime, raised, separation, time_of}
use Rattle.event_graph.specs.Limits.{reach_limit, weight_limit}
use Rattle.event_graph.proofs.Rays.{length-raised}
use Rattle.diff_bounds.specs.Limits.{IsTimely}
use Rattle.branch.specs.Work.{IsClose}
use Rattle.branch.specs.Step.Raising.{AreRaised, IsRaisedApart, IsGap, IsNearSeparation, IsRise, raised_to}
use Rattle.branch.proofs.Gaps.{time_of-raised}

moved_is : (flag : Bool) (time : ℤ) (by : ℕ) → (if flag then time +ℤ pos by else time) ≡ raised_to flag time by
moved_is true time by = refl
moved_is false time by = refl

-- one more event
pub raised_more : (flags : List Bool) (by : ℕ) (times : List ℤ) (i : ℕ) → i < length flags → i < length times
    → raised (take (i + 1) flags) by times ≡ set (raised (take i flags) by times) i (raised_to (get_or flags i false) (get_or times i (pos 0)) by)
raised_more [] by times i flag within = absurd (omega arith)
raised_more (f ∷ flags) by [] i flag within = absurd (omega arith)
raised_more (f ∷ flags) by (t ∷ times) zero flag within = ap (λ (first : ℤ). first ∷ times) (moved_is f t by)
raised_more (f ∷ flags) by (t ∷ times) (suc i) flag within =
    let next : suc i + 1 ≡ suc (i + 1) = omega arith in
    rw next (ap (λ (rest : List ℤ). (if f then t +ℤ pos by else t) ∷ rest) (raised_more flags by times i (omega arith) (omega arith)))

-- one more event is raised, and the later ones are as they were
pub raised_step : (flags : List Bool) (times now : List ℤ) (i : ℕ) (value : ℤ) (n : ℕ) → i < length flags → i < length times → now ≡ raised (take i flags) n times
    → get_or now i (pos 0) ≡ get_or times i (pos 0) → value ≡ raised_to (get_or flags i false) (get_or now i (pos 0)) n → set now i value ≡ raised (take (i + 1) flags) n times
raised_step flags times now i value n flag within is same moved =
    ap (λ (xs : List ℤ). set xs i value) is
    ∙ ap (set (raised (take i flags) n times) i) (moved ∙ ap (λ (t : ℤ). raised_to (get_or flags i false) t n) same)
    ∙ sym (raised_more flags n times i flag within)

pub rest_step : (now times : List ℤ) (i : ℕ) (value : ℤ) → ((k : ℕ) → i ≤ k → get_or now k (pos 0) ≡ get_or times k (pos 0))
    → (k : ℕ) → i + 1 ≤ k → get_or (set now i value) k (pos 0) ≡ get_or times k (pos 0)
rest_step now times i value rest k past =
    let other : i ≡ k → ⊥ = λ same. omega arith in
    get_or-set_other now i k value (pos 0) (λ same. other (sym same)) ∙ rest k (omega arith)

-- the number to raise by is within six times the reach of a path
pub rise_high : (highest lowest first last reach gap short most result : ℤ) → IsTimely highest → IsTimely lowest → IsTimely first → IsTimely last → IsNearSeparation reach
    → gap ≡ ((highest -ℤ lowest) +ℤ pos (weight_limit + 1)) → short ≡ reach -ℤ (last -ℤ first) → (most ≡ gap) ⊎ (most ≡ short) → (result ≡ most) ⊎ (result ≡ pos 0)
    → result ≤ℤ pos (6 * reach_limit)
rise_high highest lowest first last reach gap short most result h l f t r is_gap is_short (inl by_gap) (inl is) = omega (arith, ints)
rise_high highest lowest first last reach gap short most result h l f t r is_gap is_short (inr by_short) (inl is) = omega (arith, ints)
rise_high highest lowest first last reach gap short most result h l f t r is_gap is_short (inl by_gap) (inr is) = omega (arith, ints)
rise_high highest lowest first last reach gap short most result h l f t r is_gap is_short (inr by_short) (inr is) = omega (arith, ints)

pub rise_reaches : (first last reach short most result : ℤ) → short ≡ reach -ℤ (last -ℤ first) → short ≤ℤ most → most ≤ℤ result → reach ≤ℤ ((last -ℤ first) +ℤ result)
rise_reaches first last reach short most result is_short up higher = omega (arith, ints)

pub rise_gap : (highest lowest gap most result : ℤ) → gap ≡ ((highest -ℤ lowest) +ℤ pos (weight_limit + 1)) → gap ≤ℤ most → most ≤ℤ result
    → (highest +ℤ pos weight_limit) <ℤ (lowest +ℤ result)
rise_gap highest lowest gap most result is_gap up higher = omega (arith, ints)

natural : (z : ℤ) → pos 0 ≤ℤ z → (n : ℕ) × (z ≡ pos n)
natural (pos n) low = (n, refl)
natural (negsuc n) low = absurd (omega (arith, ints))

-- a raised time is within the range of times
range_after : (flag : Bool) (time : ℤ) (n : ℕ) → IsTimely time → pos n ≤ℤ pos (6 * reach_limit) → IsTime (raised_to flag time n)
range_after true time n near high = (omega (arith, ints), omega (arith, ints))
range_after false time n near high = (omega (arith, ints), omega (arith, ints))

-- a raised time is close
close_after : (flag : Bool) (time : ℤ) (n : ℕ) → IsTimely time → pos n ≤ℤ pos (6 * reach_limit) → IsClose (raised_to flag time n)
close_after true time n near high = (omega (arith, ints), omega (arith, ints))
close_after false time n near high = (omega (arith, ints), omega (arith, ints))

-- timely times are close
pub near_close : (times : List ℤ) → All IsTimely times → All IsClose times
near_close times near = All-weaker IsTimely IsClose (λ t n. (omega (arith, ints), omega (arith, ints))) times near

-- the events of the set and all others are apart after the rise

apart_after : (flags : List Bool) (times : List ℤ) (by : ℤ) (n : ℕ) → by ≡ pos n → length flags ≡ length times → IsGap flags times by → IsRaisedApart flags (raised flags n times)
apart_after flags times by n is count gap low high out in_set =
    let low_time : time_of (raised flags n times) low ≡ time_of times low = time_of-raised flags n times low.0 false out (omega (arith, slice_get_within flags low.0 false out)) in
    let high_time : time_of (raised flags n times) high ≡ time_of times high +ℤ pos n = time_of-raised flags n times high.0 true in_set (omega (arith, slice_get_within flags high.0 true in_set)) in
    let past = gap low high out in_set in
    omega (arith, ints)

pub are_raised : (flags : List Bool) (from to : EventId) (reach : ℤ) (old new : List ℤ) (by : ℤ) → All IsTimely old → length flags ≡ length old → slice_get flags from.0 ≡ Some false
    → slice_get flags to.0 ≡ Some true → IsRise flags from to reach old by → ((n : ℕ) → by ≡ pos n → new ≡ raised flags n old) → AreRaised flags from to reach old new
are_raised flags from to reach old new by near count out in_set rise is_raised =
    let number = natural by rise.low in
    let n : ℕ = number.0 in
    let is_by : by ≡ pos n = number.1 in
    let is_new : new ≡ raised flags n old = is_raised n is_by in
    let from_time : time_of (raised flags n old) from ≡ time_of old from = time_of-raised flags n old from.0 false out (omega (arith, slice_get_within flags from.0 false out)) in
    let to_time : time_of (raised flags n old) to ≡ time_of old to +ℤ pos n = time_of-raised flags n old to.0 true in_set (omega (arith, slice_get_within flags to.0 true in_set)) in
    let high : pos n ≤ℤ pos (6 * reach_limit) = subst (λ z. z ≤ℤ pos (6 * reach_limit)) is_by rise.high in
    let reached : reach ≤ℤ separation (raised flags n old) from to = let enough = rise.reached in omega (arith, ints) in
    record {
      by = n;
      same = is_new;
      apart = subst (IsRaisedApart flags) (sym is_new) (apart_after flags old by n is_by count rise.gap);
      reached = subst (λ times. reach ≤ℤ separation times from to) (sym is_new) reached;
      times = All-from_get_or IsTime new (pos 0) (λ k within.
          let in_old : k < length old = omega (arith, length-raised flags n old, ap length is_new) in
          let flag : Bool = get_or flags k false in
          let at : slice_get flags k ≡ Some flag = slice_get-get_or flags k false (omega arith) in
          let moved = time_of-raised flags n old k flag at in_old in
          subst (λ times. IsTime (get_or times k (pos 0))) (sym is_new) (subst IsTime (sym moved) (range_after flag (get_or old k (pos 0)) n (near k (pos 0) in_old) high)));
      close = All-from_get_or IsClose new (pos 0) (λ k within.
          let in_old : k < length old = omega (arith, length-raised flags n old, ap length is_new) in
          let flag : Bool = get_or flags k false in
          let at : slice_get flags k ≡ Some flag = slice_get-get_or flags k false (omega arith) in
          let moved = time_of-raised flags n old k flag at in_old in
          subst (λ times. IsClose (get_or times k (pos 0))) (sym is_new) (subst IsClose (sym moved) (close_after flag (get_or old k (pos 0)) n (near k (pos 0) in_old) high)));
    }

-- the least time of a set after one more event
pub lower_more : (flags : List Bool) (times : List ℤ) (i : ℕ) (was now : ℤ) → now ≤ℤ was → (get_or flags i false ≡ true → now ≤ℤ get_or times i (pos 0))
    → ((k : ℕ) → k < i → slice_get flags k ≡ Some true → was ≤ℤ get_or times k (pos 0)) → (k : ℕ) → k < i + 1 → slice_get flags k ≡ Some true → now ≤ℤ get_or times k (pos 0)
lower_more flags times i was now falls here before k within at =
    elim (cases_eq k i) [
      | inl same ↦ subst (λ j. now ≤ℤ get_or times j (pos 0)) (sym same) (here (get_or_from_slice_get flags i true false (subst (λ j. slice_get flags j ≡ Some true) same at)))
      | inr other ↦ (let least = before k (omega arith) at in omega (arith, ints))
    ]

-- the greatest time of all other events after one more event
pub upper_more : (flags : List Bool) (times : List ℤ) (i : ℕ) (was now : ℤ) → was ≤ℤ now → (get_or flags i false ≡ false → get_or times i (pos 0) ≤ℤ now)
    → ((k : ℕ) → k < i → slice_get flags k ≡ Some false → get_or times k (pos 0) ≤ℤ was) → (k : ℕ) → k < i + 1 → slice_get flags k ≡ Some false → get_or times k (pos 0) ≤ℤ now
upper_more flags times i was now rises here before k within at =
    elim (cases_eq k i) [
      | inl same ↦ subst (λ j. get_or times j (pos 0) ≤ℤ now) (sym same) (here (get_or_from_slice_get flags i false false (subst (λ j. slice_get flags j ≡ Some false) same at)))
      | inr other ↦ (let most = before k (omega arith) at in omega (arith, ints))
    ]

-- a span of all times gives the rise
pub rise_of : (flags : List Bool) (from to : EventId) (reach : ℤ) (times : List ℤ) (lowest highest by : ℤ) → length flags ≡ length times
    → ((k : ℕ) → k < length times → slice_get flags k ≡ Some false → get_or times k (pos 0) ≤ℤ highest)
    → ((k : ℕ) → k < length times → slice_get flags k ≡ Some true → lowest ≤ℤ get_or times k (pos 0))
    → pos 0 ≤ℤ by → by ≤ℤ pos (6 * reach_limit) → (highest +ℤ pos weight_limit) <ℤ (lowest +ℤ by) → reach ≤ℤ (separation times from to +ℤ by) → IsRise flags from to reach times by
rise_of flags from to reach times lowest highest by count most least low high gap reached = record {
  low = low;
  high = high;
  gap = λ below above out in_set.
      let under = most below.0 (omega (arith, slice_get_within flags below.0 false out)) out in
      let over = least above.0 (omega (arith, slice_get_within flags above.0 true in_set)) in_set in
      omega (arith, ints);
  reached = reached;
}
