-- Values without the numbers beyond a base that no time covers.
use Rattle.std.proofs.Common.{◌≡◌, ◌+◌, ◌*◌, ◌<◌, ◌≤◌, ◌⊎◌, inl, inr, ℕ, zero, suc, ℤ, pos, negsuc, ◌+ℤ◌, ◌-ℤ◌, ◌≤ℤ◌, ◌<ℤ◌, Bool, true, false, ◌&&◌, ◌||◌, if◌then◌else◌, int_le, int_lt, List, [], ◌∷◌, length, get_or, refl, arith}
use Rattle.std.proofs.lemmas.Int.{ints}
use Rattle.falling.proofs.Near.{IsKept, below_or_not}
use Rattle.itv_base.proofs.Integers.{test_from_le, test_from_lt}

-- whether a number is from a time on by less than a width
abbrev pub covers : ℕ → ℤ → ℤ → Bool
covers width time z = int_le time z && int_lt z (time +ℤ pos width)

abbrev pub is_covered : ℕ → List ℤ → ℤ → Bool
is_covered width [] z = false
is_covered width (time ∷ times) z = covers width time z || is_covered width times z

-- of so many numbers from a base on, how many no time covers
abbrev pub removed : ℕ → List ℤ → ℤ → ℕ → ℕ
removed width times base zero = 0
removed width times base (suc k) = removed width times base k + (if is_covered width times (base +ℤ pos k) then 0 else 1)

-- of so many numbers from a base on, how many one time covers
abbrev pub covered_by : ℕ → ℤ → ℤ → ℕ → ℕ
covered_by width time base zero = 0
covered_by width time base (suc k) = covered_by width time base k + (if covers width time (base +ℤ pos k) then 1 else 0)

-- a number, or 0 for one below 0
abbrev pub natural_part : ℤ → ℕ
natural_part (pos n) = n
natural_part (negsuc n) = 0

-- how many numbers are left out below a value
abbrev pub removed_below : ℕ → List ℤ → ℤ → ℤ → ℕ
removed_below width times base value = removed width times base (natural_part (value -ℤ base))

abbrev pub narrowed : ℕ → List ℤ → ℤ → ℤ → ℤ
narrowed width times base value = value -ℤ pos (removed_below width times base value)

pub record IsNaturalPart (z : ℤ) (n : ℕ) : Type 0 where
  pub up : pos 0 ≤ℤ z → z ≡ pos n
  pub down : z ≤ℤ pos 0 → n ≡ 0

pub natural_part_is : (z : ℤ) → IsNaturalPart z (natural_part z)
natural_part_is (pos n) = record { up = λ m. refl; down = λ m. omega (arith, ints) }
natural_part_is (negsuc n) = record { up = λ m. absurd (omega (arith, ints)); down = λ m. refl }

-- ---- how the number left out grows

pub none_or_one : (b : Bool) → (if b then 0 else 1) ≤ 1
none_or_one true = omega arith
none_or_one false = omega arith

pub record IsGrown (k n before after : ℕ) : Type 0 where
  pub least : before ≤ after
  pub most : after + k ≤ before + n

pub removed_grows : (width : ℕ) (times : List ℤ) (base : ℤ) (k n : ℕ) → k ≤ n → IsGrown k n (removed width times base k) (removed width times base n)
removed_grows width times base zero zero le = record { least = omega arith; most = omega arith }
removed_grows width times base (suc k) zero le = absurd (omega arith)
removed_grows width times base k (suc n) le = elim (or_same k n le) [
  | inl same ↦ rw same (record { least = omega arith; most = omega arith })
  | inr less ↦
      let before : IsGrown k n (removed width times base k) (removed width times base n) = removed_grows width times base k n less in
      let one : (if is_covered width times (base +ℤ pos n) then 0 else 1) ≤ 1 = none_or_one (is_covered width times (base +ℤ pos n)) in
      record { least = omega arith; most = omega arith }
] where
  or_same : (k n : ℕ) → k ≤ suc n → (k ≡ suc n) ⊎ (k ≤ n)
  or_same k n le = grind arith

-- none are left out among covered numbers
pub removed_stays : (width : ℕ) (times : List ℤ) (base : ℤ) (k n : ℕ) → k ≤ n → ((j : ℕ) → k ≤ j → j < n → is_covered width times (base +ℤ pos j) ≡ true)
    → removed width times base n ≡ removed width times base k
removed_stays width times base zero zero le covered = refl
removed_stays width times base (suc k) zero le covered = absurd (omega arith)
removed_stays width times base k (suc n) le covered = elim (or_same k n le) [
  | inl same ↦ rw same refl
  | inr less ↦
      let before : removed width times base n ≡ removed width times base k = removed_stays width times base k n less (λ j m p. covered j m (omega arith)) in
      rw (covered n less (omega arith)) (omega arith)
] where
  or_same : (k n : ℕ) → k ≤ suc n → (k ≡ suc n) ⊎ (k ≤ n)
  or_same k n le = grind arith

-- a time covers the numbers from it on
covers_from : (width : ℕ) (time z : ℤ) → time ≤ℤ z → z <ℤ (time +ℤ pos width) → covers width time z ≡ true
covers_from width time z least less = rw (test_from_le time z least, test_from_lt z (time +ℤ pos width) less) refl

or_left : (a b : Bool) → a ≡ true → (a || b) ≡ true
or_left a b e = rw e refl

or_right : (a b : Bool) → b ≡ true → (a || b) ≡ true
or_right true b e = refl
or_right false b e = e

pub covered_from : (width : ℕ) (times : List ℤ) (i : ℕ) (z : ℤ) → i < length times → get_or times i (pos 0) ≤ℤ z → z <ℤ (get_or times i (pos 0) +ℤ pos width)
    → is_covered width times z ≡ true
covered_from width [] i z within least less = absurd (omega arith)
covered_from width (time ∷ times) zero z within least less = or_left _ _ (covers_from width time z least less)
covered_from width (time ∷ times) (suc i) z within least less = or_right _ _ (covered_from width times i z (omega arith) least less)

-- ---- the number left out below a value

pub removed_below_grows : (width : ℕ) (times : List ℤ) (base u v : ℤ) → u ≤ℤ v
    → (removed_below width times base u ≤ removed_below width times base v) × ((pos (removed_below width times base v) +ℤ u) ≤ℤ (pos (removed_below width times base u) +ℤ v))
removed_below_grows width times base u v le =
    let part_u : IsNaturalPart (u -ℤ base) (natural_part (u -ℤ base)) = natural_part_is (u -ℤ base) in
    let part_v : IsNaturalPart (v -ℤ base) (natural_part (v -ℤ base)) = natural_part_is (v -ℤ base) in
    grown_below (natural_part (u -ℤ base)) (natural_part (v -ℤ base)) part_u part_v where
      grown_below : (k n : ℕ) → IsNaturalPart (u -ℤ base) k → IsNaturalPart (v -ℤ base) n
          → (removed width times base k ≤ removed width times base n) × ((pos (removed width times base n) +ℤ u) ≤ℤ (pos (removed width times base k) +ℤ v))
      grown_below k n part_u part_v =
          let le_parts : k ≤ n = parts_le u v base k n part_u part_v le in
          let grown : IsGrown k n (removed width times base k) (removed width times base n) = removed_grows width times base k n le_parts in
          (grown.least, most_of u v base k n _ _ part_u part_v le grown) where
            parts_le : (u v base : ℤ) (k n : ℕ) → IsNaturalPart (u -ℤ base) k → IsNaturalPart (v -ℤ base) n → u ≤ℤ v → k ≤ n
            parts_le u v base k n part_u part_v le = elim (below_or_not (u -ℤ base) (pos 0)) [
              | inl low ↦ let none : k ≡ 0 = part_u.down (omega (arith, ints)) in omega arith
              | inr up ↦
                  let at_u : (u -ℤ base) ≡ pos k = part_u.up up in
                  let at_v : (v -ℤ base) ≡ pos n = part_v.up (omega (arith, ints)) in
                  omega (arith, ints)
            ]

            most_of : (u v base : ℤ) (k n before after : ℕ) → IsNaturalPart (u -ℤ base) k → IsNaturalPart (v -ℤ base) n → u ≤ℤ v → IsGrown k n before after
                → (pos after +ℤ u) ≤ℤ (pos before +ℤ v)
            most_of u v base k n before after part_u part_v le grown = elim (below_or_not (v -ℤ base) (pos 0)) [
              | inl low ↦
                  let none_v : n ≡ 0 = part_v.down (omega (arith, ints)) in
                  let none_u : k ≡ 0 = part_u.down (omega (arith, ints)) in
                  omega (arith, ints, grown.most)
              | inr up ↦
                  let at_v : (v -ℤ base) ≡ pos n = part_v.up up in
                  elim (below_or_not (u -ℤ base) (pos 0)) [
                    | inl low ↦ let none_u : k ≡ 0 = part_u.down (omega (arith, ints)) in omega (arith, ints, grown.most)
                    | inr high ↦ let at_u : (u -ℤ base) ≡ pos k = part_u.up high in omega (arith, ints, grown.most)
                  ]
            ]

pub removed_below_stays : (width : ℕ) (times : List ℤ) (base : ℤ) (i : ℕ) (v : ℤ) → i < length times → get_or times i (pos 0) ≤ℤ v
    → v ≤ℤ (get_or times i (pos 0) +ℤ pos width) → removed_below width times base v ≡ removed_below width times base (get_or times i (pos 0))
removed_below_stays width times base i v within least most =
    stays (natural_part (v -ℤ base)) (natural_part (get_or times i (pos 0) -ℤ base)) (natural_part_is (v -ℤ base)) (natural_part_is (get_or times i (pos 0) -ℤ base)) where
      stays : (n k : ℕ) → IsNaturalPart (v -ℤ base) n → IsNaturalPart (get_or times i (pos 0) -ℤ base) k → removed width times base n ≡ removed width times base k
      stays n k part_v part_u = removed_stays width times base k n (parts_le (get_or times i (pos 0)) k n part_u least part_v)
          (λ j from below. covered_from width times i (base +ℤ pos j) within (from_time (get_or times i (pos 0)) k n j part_u from)
          (below_end (get_or times i (pos 0)) n j part_v most below)) where
            parts_le : (u : ℤ) (k n : ℕ) → IsNaturalPart (u -ℤ base) k → u ≤ℤ v → IsNaturalPart (v -ℤ base) n → k ≤ n
            parts_le u k n part_u le part_v = elim (below_or_not (u -ℤ base) (pos 0)) [
              | inl low ↦ let none : k ≡ 0 = part_u.down (omega (arith, ints)) in omega arith
              | inr up ↦
                  let at_u : (u -ℤ base) ≡ pos k = part_u.up up in
                  let at_v : (v -ℤ base) ≡ pos n = part_v.up (omega (arith, ints)) in
                  omega (arith, ints)
            ]

            from_time : (u : ℤ) (k n j : ℕ) → IsNaturalPart (u -ℤ base) k → k ≤ j → u ≤ℤ (base +ℤ pos j)
            from_time u k n j part_u from = elim (below_or_not (u -ℤ base) (pos 0)) [
              | inl low ↦ omega (arith, ints)
              | inr up ↦ let at_u : (u -ℤ base) ≡ pos k = part_u.up up in omega (arith, ints)
            ]

            below_end : (u : ℤ) (n j : ℕ) → IsNaturalPart (v -ℤ base) n → v ≤ℤ (u +ℤ pos width) → j < n → (base +ℤ pos j) <ℤ (u +ℤ pos width)
            below_end u n j part_v most below = elim (below_or_not (v -ℤ base) (pos 0)) [
              | inl low ↦ let none : n ≡ 0 = part_v.down (omega (arith, ints)) in absurd (omega arith)
              | inr up ↦ let at_v : (v -ℤ base) ≡ pos n = part_v.up up in omega (arith, ints)
            ]

-- narrowed times keep near separations
pub kept_narrowed : (width : ℕ) (times : List ℤ) (base : ℤ) (i j : ℕ) → i < length times → j < length times
    → IsKept width (get_or times j (pos 0) -ℤ get_or times i (pos 0)) (narrowed width times base (get_or times j (pos 0)) -ℤ narrowed width times base (get_or times i (pos 0)))
kept_narrowed width times base i j in_i in_j = record {
  near = λ m n.
      let same : removed_below width times base (get_or times j (pos 0)) ≡ removed_below width times base (get_or times i (pos 0)) =
      removed_below_stays width times base i (get_or times j (pos 0)) in_i (omega (arith, ints)) (omega (arith, ints)) in
      rw same (omega (arith, ints));
  wide = λ m.
      let between : ℤ = get_or times i (pos 0) +ℤ pos width in
      let same : removed_below width times base (get_or times i (pos 0) +ℤ pos width) ≡ removed_below width times base (get_or times i (pos 0)) =
      removed_below_stays width times base i (get_or times i (pos 0) +ℤ pos width) in_i (omega (arith, ints)) (omega (arith, ints)) in
      let grown = removed_below_grows width times base (get_or times i (pos 0) +ℤ pos width) (get_or times j (pos 0)) (omega (arith, ints)) in
      wide_of (get_or times i (pos 0)) (get_or times j (pos 0)) width _ _ _ same grown.1;
} where
  wide_of : (u v : ℤ) (width at_u at_between at_v : ℕ) → at_between ≡ at_u → (pos at_v +ℤ (u +ℤ pos width)) ≤ℤ (pos at_between +ℤ v)
      → pos width ≤ℤ ((v -ℤ pos at_v) -ℤ (u -ℤ pos at_u))
  wide_of u v width at_u at_between at_v same most = omega (arith, ints)

-- ---- how many numbers are covered

record IsSmall (width : ℕ) (time at : ℤ) (count : ℕ) : Type 0 where
  most : count ≤ width
  before : at ≤ℤ time → count ≡ 0
  after : time ≤ℤ at → pos count ≤ℤ (at -ℤ time)

covers_is : (width : ℕ) (time z : ℤ) → covers width time z ≡ true → (time ≤ℤ z) × (z <ℤ (time +ℤ pos width))
covers_is width time z e = by_tests (int_le time z) (int_lt z (time +ℤ pos width)) refl refl e where
  by_tests : (a b : Bool) → int_le time z ≡ a → int_lt z (time +ℤ pos width) ≡ b → (a && b) ≡ true → (time ≤ℤ z) × (z <ℤ (time +ℤ pos width))
  by_tests true true is_a is_b both = (omega (arith, ints), omega (arith, ints))
  by_tests true false is_a is_b both = absurd (cc)
  by_tests false b is_a is_b both = absurd (cc)

small_more : (width : ℕ) (time base : ℤ) (k count : ℕ) (b : Bool) → IsSmall width time (base +ℤ pos k) count → covers width time (base +ℤ pos k) ≡ b
    → IsSmall width time (base +ℤ pos (suc k)) (count + (if b then 1 else 0))
small_more width time base k count true small is =
    let here = covers_is width time (base +ℤ pos k) is in
    let least : time ≤ℤ (base +ℤ pos k) = here.0 in
    let less : (base +ℤ pos k) <ℤ (time +ℤ pos width) = here.1 in
    let after : pos count ≤ℤ ((base +ℤ pos k) -ℤ time) = small.after least in
    record { most = omega (arith, ints); before = λ m. absurd (omega (arith, ints)); after = λ m. omega (arith, ints) }
small_more width time base k count false small is = record {
  most = omega (arith, small.most);
  before = λ m. let none : count ≡ 0 = small.before (omega (arith, ints)) in omega arith;
  after = λ m. elim (below_or_not (base +ℤ pos k) time) [
    | inl low ↦ let none : count ≡ 0 = small.before (omega (arith, ints)) in omega (arith, ints)
    | inr high ↦ let after : pos count ≤ℤ ((base +ℤ pos k) -ℤ time) = small.after high in omega (arith, ints)
  ];
}

covered_by_small : (width : ℕ) (time base : ℤ) (k : ℕ) → IsSmall width time (base +ℤ pos k) (covered_by width time base k)
covered_by_small width time base zero = record { most = omega arith; before = λ m. refl; after = λ m. omega (arith, ints) }
covered_by_small width time base (suc k) =
    small_more width time base k (covered_by width time base k) (covers width time (base +ℤ pos k)) (covered_by_small width time base k) refl

one_less : (a b : Bool) → (if b then 0 else 1) ≤ (if a || b then 0 else 1) + (if a then 1 else 0)
one_less true true = omega arith
one_less true false = omega arith
one_less false true = omega arith
one_less false false = omega arith

removed_less : (width : ℕ) (time : ℤ) (times : List ℤ) (base : ℤ) (k : ℕ)
    → removed width times base k ≤ removed width (time ∷ times) base k + covered_by width time base k
removed_less width time times base zero = omega arith
removed_less width time times base (suc k) =
    let before : removed width times base k ≤ removed width (time ∷ times) base k + covered_by width time base k = removed_less width time times base k in
    let here = one_less (covers width time (base +ℤ pos k)) (is_covered width times (base +ℤ pos k)) in
    omega (arith, here)

all_removed : (width : ℕ) (base : ℤ) (k : ℕ) → removed width [] base k ≡ k
all_removed width base zero = refl
all_removed width base (suc k) = omega (arith, all_removed width base k)

-- at most as many numbers as the times have widths are left
pub few_left : (width : ℕ) (times : List ℤ) (base : ℤ) (k : ℕ) → k ≤ removed width times base k + length times * width
few_left width [] base k = omega (arith, all_removed width base k)
few_left width (time ∷ times) base k =
    let rest : k ≤ removed width times base k + length times * width = few_left width times base k in
    let less : removed width times base k ≤ removed width (time ∷ times) base k + covered_by width time base k = removed_less width time times base k in
    let small : covered_by width time base k ≤ width = (covered_by_small width time base k).most in
    let more : length (time ∷ times) * width ≡ width + length times * width = grind arith in
    omega arith
