-- Narrowed times keep near separations, and have no gap beyond the width.
use Rattle.std.proofs.Common.{◌≡◌, ◌+◌, ◌<◌, ◌≤◌, ◌⊎◌, inl, inr, ℕ, zero, suc, ℤ, pos, negsuc, ◌+ℤ◌, ◌-ℤ◌, ◌≤ℤ◌, ◌<ℤ◌, Bool, true, false, ◌&&◌, ◌||◌, if◌then◌else◌, int_le, List, [], ◌∷◌, All, length, fold, get_or, ◌∙◌, refl, ap, arith}
use Rattle.std.specs.List.{list_any}
use Rattle.std.proofs.lemmas.Int.{ints}
use Rattle.std.proofs.lemmas.List.{get_or-map, length-map}
use Rattle.falling.proofs.Near.{IsKept, KeepsNear}
use Rattle.falling.proofs.Removed.{IsGrown, IsNaturalPart, covers, is_covered, kept_narrowed, natural_part_is, none_or_one, removed, removed_grows}
use Rattle.falling.proofs.Removed as fall
use Rattle.falling.proofs.Within.{kept_less}
use Rattle.redraw.specs.Narrowing.{AreNeighbours, follow_count, follows, least, lesser, narrowed, narrowed_time, natural_part}
use Rattle.redraw.specs.Laws.{NarrowingIsByGaps}
use Rattle.itv_base.proofs.Integers.{no_test_from_le}

-- ---- the numbers that follow a time are the numbers that are not removed

covered_is : (width : ℕ) (times : List ℤ) (z : ℤ) → is_covered width times z ≡ list_any (follows width z) times
covered_is width [] z = refl
covered_is width (time ∷ times) z = ap (λ b. covers width time z || b) (covered_is width times z)

one_of : (b : Bool) → (if b then 1 else 0) + (if b then 0 else 1) ≡ 1
one_of true = refl
one_of false = refl

left_and_removed : (width : ℕ) (times : List ℤ) (base : ℤ) (k : ℕ) → follow_count width times base k + removed width times base k ≡ k
left_and_removed width times base zero = refl
left_and_removed width times base (suc k) =
    let rest : follow_count width times base k + removed width times base k ≡ k = left_and_removed width times base k in
    let one = one_of (is_covered width times (base +ℤ pos k)) in
    rw (← covered_is width times (base +ℤ pos k)) (omega (arith, one))

natural_same : (z : ℤ) → natural_part z ≡ fall.natural_part z
natural_same (pos n) = refl
natural_same (negsuc n) = refl

-- ---- the least time

lesser_is : (a b : ℤ) → (lesser a b ≤ℤ a) × (lesser a b ≤ℤ b)
lesser_is a b = by_test (int_le a b) refl where
  by_test : (t : Bool) → int_le a b ≡ t → ((if t then a else b) ≤ℤ a) × ((if t then a else b) ≤ℤ b)
  by_test true e = (omega (arith, ints), omega (arith, ints))
  by_test false e = (omega (arith, ints), omega (arith, ints))

fold_below : (times : List ℤ) (time : ℤ) → fold lesser time times ≤ℤ time
fold_below [] time = omega (arith, ints)
fold_below (t ∷ ts) time =
    let rest : fold lesser (lesser time t) ts ≤ℤ lesser time t = fold_below ts (lesser time t) in
    let less : lesser time t ≤ℤ time = (lesser_is time t).0 in
    through (fold lesser (lesser time t) ts) (lesser time t) time rest less where
      through : (a b c : ℤ) → a ≤ℤ b → b ≤ℤ c → a ≤ℤ c
      through a b c p q = omega (arith, ints)

fold_least : (times : List ℤ) (time : ℤ) (i : ℕ) (d : ℤ) → i < length times → fold lesser time times ≤ℤ get_or times i d
fold_least [] time i d within = absurd (omega arith)
fold_least (t ∷ ts) time zero d within =
    let rest : fold lesser (lesser time t) ts ≤ℤ lesser time t = fold_below ts (lesser time t) in
    let less : lesser time t ≤ℤ t = (lesser_is time t).1 in
    through (fold lesser (lesser time t) ts) (lesser time t) t rest less where
      through : (a b c : ℤ) → a ≤ℤ b → b ≤ℤ c → a ≤ℤ c
      through a b c p q = omega (arith, ints)
fold_least (t ∷ ts) time (suc i) d within = fold_least ts (lesser time t) i d (omega arith)

pub least_below : (times : List ℤ) (i : ℕ) (d : ℤ) → i < length times → least times ≤ℤ get_or times i d
least_below [] i d within = absurd (omega arith)
least_below (time ∷ times) zero d within = fold_below times time
least_below (time ∷ times) (suc i) d within = fold_least times time i d (omega arith)

-- ---- narrowed times, from the numbers that are removed

counted : (width : ℕ) (times : List ℤ) (base time : ℤ) (n : ℕ) → IsNaturalPart (time -ℤ base) n → base ≤ℤ time
    → pos (follow_count width times base n) ≡ (time -ℤ pos (removed width times base n)) -ℤ base
counted width times base time n part least =
    let at : (time -ℤ base) ≡ pos n = part.up (omega (arith, ints)) in
    let all = left_and_removed width times base n in
    by_sum (follow_count width times base n) (removed width times base n) n time base at all where
      by_sum : (left out n : ℕ) (time base : ℤ) → (time -ℤ base) ≡ pos n → left + out ≡ n → pos left ≡ (time -ℤ pos out) -ℤ base
      by_sum left out n time base at all = omega (arith, ints)

narrowed_is : (width : ℕ) (times : List ℤ) (time : ℤ) → least times ≤ℤ time → narrowed_time width times time ≡ fall.narrowed width times (least times) time -ℤ least times
narrowed_is width times time below =
    rw (natural_same (time -ℤ least times)) (counted width times (least times) time (fall.natural_part (time -ℤ least times)) (natural_part_is (time -ℤ least times)) below)

pub narrowed_at : (width : ℕ) (times : List ℤ) (i : ℕ) (d : ℤ) → i < length times
    → get_or (narrowed width times) i d ≡ fall.narrowed width times (least times) (get_or times i (pos 0)) -ℤ least times
unfolding narrowed
narrowed_at width times i d within =
    get_or-map (narrowed_time width times) times i (pos 0) d within ∙ narrowed_is width times (get_or times i (pos 0)) (least_below times i (pos 0) within)

pub length-narrowed : (width : ℕ) (times : List ℤ) → length (narrowed width times) ≡ length times
unfolding narrowed
length-narrowed width times = length-map times (narrowed_time width times)

kept_at : (width : ℕ) (times : List ℤ) (i j : ℕ) (d e : ℤ) → i < length times → j < length times
    → IsKept width (get_or times j (pos 0) -ℤ get_or times i (pos 0)) (get_or (narrowed width times) j e -ℤ get_or (narrowed width times) i d)
kept_at width times i j d e in_i in_j =
    rw (narrowed_at width times i d in_i, narrowed_at width times j e in_j)
    (kept_less width (get_or times j (pos 0) -ℤ get_or times i (pos 0)) _ _ (least times) (kept_narrowed width times (least times) i j in_i in_j))

-- narrowed times keep near separations
pub keeps_narrowed : (width : ℕ) (times : List ℤ) → KeepsNear width (length times) times (narrowed width times)
keeps_narrowed width times from to in_from in_to = kept_at width times from.0 to.0 (pos 0) (pos 0) in_from in_to

-- ---- no gap is left beyond the width

-- if no time covers some numbers, all of them are removed
removed_all : (width : ℕ) (times : List ℤ) (base : ℤ) (k n : ℕ) → k ≤ n → ((j : ℕ) → k ≤ j → j < n → is_covered width times (base +ℤ pos j) ≡ false)
    → removed width times base n + k ≡ removed width times base k + n
removed_all width times base zero zero le bare = refl
removed_all width times base (suc k) zero le bare = absurd (omega arith)
removed_all width times base k (suc n) le bare = elim (or_same k n le) [
  | inl same ↦ rw same refl
  | inr less ↦
      let before : removed width times base n + k ≡ removed width times base k + n = removed_all width times base k n less (λ j m p. bare j m (omega arith)) in
      rw (bare n less (omega arith)) (omega arith)
] where
  or_same : (k n : ℕ) → k ≤ suc n → (k ≡ suc n) ⊎ (k ≤ n)
  or_same k n le = grind arith

not_le : (a b : ℤ) → b <ℤ a → int_le a b ≡ false
not_le a b h = by_test (int_le a b) refl where
  by_test : (t : Bool) → int_le a b ≡ t → t ≡ false
  by_test true e = absurd (omega (arith, ints))
  by_test false e = refl

and_false : (b : Bool) → (b && false) ≡ false
and_false true = refl
and_false false = refl

not_before : (width : ℕ) (time z : ℤ) → (time +ℤ pos width) ≤ℤ z → covers width time z ≡ false
not_before width time z h = rw (no_test_from_le z (time +ℤ pos width) h) (and_false (int_le time z))

not_after : (width : ℕ) (time z : ℤ) → z <ℤ time → covers width time z ≡ false
not_after width time z h = rw (not_le time z h) refl

bare_between : (width : ℕ) (times : List ℤ) (lower upper z : ℤ) → All (λ (time : ℤ). (time ≤ℤ lower) ⊎ (upper ≤ℤ time)) times → (lower +ℤ pos width) ≤ℤ z → z <ℤ upper
    → is_covered width times z ≡ false
bare_between width [] lower upper z empty from below = refl
bare_between width (time ∷ times) lower upper z empty from below =
    let rest : is_covered width times z ≡ false = bare_between width times lower upper z (λ i d within. empty (suc i) d (omega arith)) from below in
    let here : (time ≤ℤ lower) ⊎ (upper ≤ℤ time) = empty 0 time (omega arith) in
    let bare : covers width time z ≡ false = elim here [
      | inl low ↦ not_before width time z (omega (arith, ints))
      | inr up ↦ not_after width time z (omega (arith, ints))
    ] in
    rw (bare, rest) refl

-- if two neighbours are more than the width apart, at most the width is left between them
most_left : (width : ℕ) (times : List ℤ) (base lower upper : ℤ) → base ≤ℤ lower → AreNeighbours times lower upper → pos width ≤ℤ (upper -ℤ lower)
    → (fall.narrowed width times base upper -ℤ fall.narrowed width times base lower) ≤ℤ pos width
most_left width times base lower upper above near wide =
    by_parts (fall.natural_part (lower -ℤ base)) (fall.natural_part (upper -ℤ base)) (natural_part_is (lower -ℤ base)) (natural_part_is (upper -ℤ base)) where
      by_sum : (a b c k n : ℕ) (lower upper base : ℤ) (width : ℕ) → (lower -ℤ base) ≡ pos k → (upper -ℤ base) ≡ pos n → c + (k + width) ≡ b + n → a ≤ b
          → ((upper -ℤ pos c) -ℤ (lower -ℤ pos a)) ≤ℤ pos width
      by_sum a b c k n lower upper base width at_k at_n gone least = omega (arith, ints)

      by_parts : (k n : ℕ) → IsNaturalPart (lower -ℤ base) k → IsNaturalPart (upper -ℤ base) n
          → ((upper -ℤ pos (removed width times base n)) -ℤ (lower -ℤ pos (removed width times base k))) ≤ℤ pos width
      by_parts k n part_k part_n =
          let at_k : (lower -ℤ base) ≡ pos k = part_k.up (omega (arith, ints)) in
          let at_n : (upper -ℤ base) ≡ pos n = part_n.up (omega (arith, ints)) in
          let far : k + width ≤ n = omega (arith, ints) in
          let gone : removed width times base n + (k + width) ≡ removed width times base (k + width) + n =
          removed_all width times base (k + width) n far (λ j from below. bare_between width times lower upper (base +ℤ pos j) near.1 (omega (arith, ints)) (omega (arith, ints))) in
          let grown : IsGrown k (k + width) (removed width times base k) (removed width times base (k + width)) = removed_grows width times base k (k + width) (omega arith) in
          let least : removed width times base k ≤ removed width times base (k + width) = grown.least in
          by_sum (removed width times base k) (removed width times base (k + width)) (removed width times base n) k n lower upper base width at_k at_n gone least

-- ---- by gaps

lesser_by : (width : ℕ) (old new : ℤ) → pos 0 ≤ℤ old → IsKept width old new → (pos width ≤ℤ old → new ≤ℤ pos width) → new ≡ lesser old (pos width)
lesser_by width old new low kept most = by_test (int_le old (pos width)) refl where
  by_test : (t : Bool) → int_le old (pos width) ≡ t → new ≡ (if t then old else pos width)
  by_test true e = kept.near low (omega (arith, ints))
  by_test false e =
      let up : pos width ≤ℤ new = kept.wide (omega (arith, ints)) in
      let down : new ≤ℤ pos width = most (omega (arith, ints)) in
      omega (arith, ints)

gap_is : (width : ℕ) (times : List ℤ) (i j : ℕ) → i < length times → j < length times → AreNeighbours times (get_or times i (pos 0)) (get_or times j (pos 0))
    → (get_or (narrowed width times) j (pos 0) -ℤ get_or (narrowed width times) i (pos 0)) ≡ lesser (get_or times j (pos 0) -ℤ get_or times i (pos 0)) (pos width)
gap_is width times i j in_i in_j near =
    let le : get_or times i (pos 0) ≤ℤ get_or times j (pos 0) = near.0 in
    lesser_by width (get_or times j (pos 0) -ℤ get_or times i (pos 0)) _ (omega (arith, ints)) (kept_at width times i j (pos 0) (pos 0) in_i in_j)
    (λ wide. rw (narrowed_at width times i (pos 0) in_i, narrowed_at width times j (pos 0) in_j)
    (less_base _ _ (least times) width (most_left width times (least times) (get_or times i (pos 0)) (get_or times j (pos 0)) (least_below times i (pos 0) in_i) near wide))) where
      less_base : (a b less : ℤ) (width : ℕ) → (b -ℤ a) ≤ℤ pos width → ((b -ℤ less) -ℤ (a -ℤ less)) ≤ℤ pos width
      less_base a b less width h = omega (arith, ints)

pub narrowing_is_by_gaps : NarrowingIsByGaps
narrowing_is_by_gaps width times = record {
  count = length-narrowed width times;
  gaps = λ i j in_i in_j near. gap_is width times i j in_i in_j near;
}
