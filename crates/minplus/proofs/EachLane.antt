-- What one lane of a vector becomes, and all lanes.
use Rattle.std.proofs.Common.{◌≡◌, ◌+◌, ◌-◌, ◌<◌, ◌≤◌, ◌^◌, inl, inr, ℕ, zero, suc, ℤ, pos, negsuc, neg_ℤ, ◌+ℤ◌, Bool, true, false, cond, eqb, List, [], ◌∷◌, length, map, replicate, All, sym, ap, ◌∙◌, refl, lit<, w64, to_z, of_z, arith}
use Rattle.std.proofs.lemmas.Bool.{ne_eqb}
use Rattle.std.proofs.lemmas.Int.{ints, to_z-of_z}
use Rattle.std.proofs.lemmas.Simd.{Each1-chunk, Each1-from_get_or, Each1-get_or, get_or-chunk, length-chunk}
use Rattle.std.specs.Int.{int_min}
use lib.Signed.{◌<ℤ◌, lt_z}
use lib.Lanes.{Each1, Each2, chunk, put_chunk, zip2, sel_l, top}
use mir.Val.{SFits}
use mir.Syntax.{signed, eq, lt, add, mask}
use borrow.Table.Row.{s_int}
use borrow.Rule.Simd.Lanes.{act2, Asks2}
use Rattle.minplus.specs.Rows.{IsEntry, IsSmall, improved}
use Rattle.minplus.specs.declared.rows.TheConstants.{ABSENT}
use Rattle.minplus.proofs.Numbers.{improved_absent, improved_small, lesser}
use Rattle.minplus.specs.Step.Rows.{ImprovesPart}
use Rattle.minplus.proofs.Parts.{eight_put}

abbrev pub eq_lane : ℕ → ℕ → ℕ
eq_lane = act2 (mask eq) (s_int w64) (s_int w64) (s_int w64)

abbrev pub lt_lane : ℕ → ℕ → ℕ
lt_lane = act2 (mask (lt signed)) (s_int w64) (s_int w64) (s_int w64)

abbrev pub add_lane : ℕ → ℕ → ℕ
add_lane = act2 (add signed) (s_int w64) (s_int w64) (s_int w64)

top_of : (b : Bool) → top 63 (cond b (2 ^ 64 - 1) 0) ≡ b
top_of true = refl
top_of false = refl

eq_top : (a b : ℕ) → top 63 (eq_lane a b) ≡ eqb a b
eq_top a b = top_of (eqb a b)

lt_top : (a b : ℕ) → top 63 (lt_lane a b) ≡ lt_z (to_z w64 a) (to_z w64 b)
lt_top a b = top_of (lt_z (to_z w64 a) (to_z w64 b))

add_is : (a b : ℕ) → add_lane a b ≡ of_z w64 (to_z w64 a +ℤ to_z w64 b)
add_is a b = refl

-- ---- one lane
within : (x : ℤ) → neg_ℤ (pos (2 ^ 62)) <ℤ x → x <ℤ pos (2 ^ 62) → SFits w64 x
within (pos n) low high = record { sfits = omega (arith, ints) }
within (negsuc n) low high = record { sfits = omega (arith, ints) }

small_fits : (x : ℤ) → IsSmall x → SFits w64 x
small_fits x small = within x (omega (arith, ints)) (omega (arith, ints))

sum_fits : (x y : ℤ) → IsSmall x → IsSmall y → SFits w64 (x +ℤ y)
sum_fits x y first second = within (x +ℤ y) (omega (arith, ints)) (omega (arith, ints))

entry_fits : (x : ℤ) → IsEntry x → SFits w64 x
entry_fits x (inl absent) = rw absent (record { sfits = lit< tt })
entry_fits x (inr small) = small_fits x small

differs : (a : ℕ) → (a ≡ 2 ^ 63 - 1 → ⊥) → eqb a (2 ^ 63 - 1) ≡ false
differs a apart = ne_eqb a (2 ^ 63 - 1) apart

bits_differ : (x : ℤ) → IsSmall x → of_z w64 x ≡ 2 ^ 63 - 1 → ⊥
bits_differ x small same =
    let back : to_z w64 (of_z w64 x) ≡ x = to_z-of_z w64 x (small_fits x small) in
    let there : to_z w64 (of_z w64 x) ≡ pos (2 ^ 63 - 1) = ap (to_z w64) same in
    let is : x ≡ pos (2 ^ 63 - 1) = sym back ∙ there in
    omega (arith, ints)

least : (x y : ℤ) → cond (lt_z x y) x y ≡ int_min x y
least x y = grind (arith, ints)

pick : (t : Bool) (x y : ℤ) → SFits w64 x → SFits w64 y → to_z w64 (cond t (of_z w64 x) (of_z w64 y)) ≡ cond t x y
pick true x y first second = to_z-of_z w64 x first
pick false x y first second = to_z-of_z w64 y second

-- the lane of a sum, by the test whether the other entry is absent
abbrev pub sum_lane : ℤ → ℤ → Bool → ℕ
sum_lane weight other t = add_lane (cond t 0 (of_z w64 other)) (of_z w64 weight)

-- the improved lane, by the same test
abbrev pub least_lane : ℤ → ℤ → ℤ → Bool → ℕ
least_lane weight entry other t =
    cond t (of_z w64 entry) (cond (top 63 (lt_lane (of_z w64 entry) (sum_lane weight other t))) (of_z w64 entry) (sum_lane weight other t))

abbrev pub is_absent : ℤ → Bool
is_absent other = top 63 (eq_lane (of_z w64 other) (2 ^ 63 - 1))

at_absent : (other : ℤ) → other ≡ ABSENT → is_absent other ≡ true
at_absent other is = rw is refl

at_small : (other : ℤ) → IsSmall other → is_absent other ≡ false
at_small other small = eq_top (of_z w64 other) (2 ^ 63 - 1) ∙ differs (of_z w64 other) (bits_differ other small)

sum_is : (weight other : ℤ) → IsSmall weight → IsSmall other → sum_lane weight other false ≡ of_z w64 (other +ℤ weight)
sum_is weight other weight_small small = rw (add_is (of_z w64 other) (of_z w64 weight), to_z-of_z w64 other (small_fits other small), to_z-of_z w64 weight (small_fits weight weight_small)) refl

by_sum : (entry sum : ℤ) (lane : ℕ) → SFits w64 entry → SFits w64 sum → lane ≡ of_z w64 sum
    → to_z w64 (cond (top 63 (lt_lane (of_z w64 entry) lane)) (of_z w64 entry) lane) ≡ int_min entry sum
by_sum entry sum lane first second is =
    rw (is, lt_top (of_z w64 entry) (of_z w64 sum), to_z-of_z w64 entry first, to_z-of_z w64 sum second)
    (pick (lt_z entry sum) entry sum first second ∙ least entry sum)

pub one_lane : (weight entry other : ℤ) → IsSmall weight → IsEntry entry → IsEntry other → to_z w64 (least_lane weight entry other (is_absent other)) ≡ improved weight entry other
one_lane weight entry other weight_small held (inl absent) =
    rw (at_absent other absent) (to_z-of_z w64 entry (entry_fits entry held) ∙ sym (improved_absent weight entry other absent))
one_lane weight entry other weight_small held (inr small) =
    rw (at_small other small)
    (by_sum entry (other +ℤ weight) (sum_lane weight other false) (entry_fits entry held) (sum_fits other weight small weight_small) (sum_is weight other weight_small small)
    ∙ sym (improved_small weight entry other small))

-- ---- all lanes
abbrev pub absent_lanes : ℕ → List ℤ → List Bool
absent_lanes n others = map (top 63) (zip2 eq_lane (map (of_z w64) others) (replicate n (2 ^ 63 - 1)))

abbrev pub present_lanes : ℕ → List ℤ → List ℕ
present_lanes n others = sel_l (absent_lanes n others) (replicate n 0) (map (of_z w64) others)

abbrev pub sum_lanes : ℕ → ℤ → List ℤ → List ℕ
sum_lanes n weight others = zip2 add_lane (present_lanes n others) (replicate n (of_z w64 weight))

abbrev pub least_lanes : ℕ → ℤ → List ℤ → List ℤ → List ℕ
least_lanes n weight entries others =
    sel_l (absent_lanes n others) (map (of_z w64) entries)
    (sel_l (map (top 63) (zip2 lt_lane (map (of_z w64) entries) (sum_lanes n weight others))) (map (of_z w64) entries) (sum_lanes n weight others))

joined : {x y : ℤ} {xs ys : List ℤ} → x ≡ y → xs ≡ ys → x ∷ xs ≡ y ∷ ys
joined first rest = cc

pub all_lanes : (n : ℕ) (weight : ℤ) (entries others : List ℤ) → length entries ≡ n → length others ≡ n → IsSmall weight → Each1 IsEntry entries → Each1 IsEntry others
    → map (to_z w64) (least_lanes n weight entries others) ≡ zip2 (improved weight) entries others
all_lanes zero weight [] [] counts other_counts small held other_held = refl
all_lanes zero weight [] (y ∷ others) counts other_counts small held other_held = absurd (omega (arith, other_counts))
all_lanes zero weight (x ∷ entries) others counts other_counts small held other_held = absurd (omega (arith, counts))
all_lanes (suc n) weight [] others counts other_counts small held other_held = absurd (omega (arith, counts))
all_lanes (suc n) weight (x ∷ entries) [] counts other_counts small held other_held = absurd (omega (arith, other_counts))
all_lanes (suc n) weight (x ∷ entries) (y ∷ others) counts other_counts small held other_held =
    joined (one_lane weight x y small held.0 other_held.0) (all_lanes n weight entries others (omega (arith, counts)) (omega (arith, other_counts)) small held.1 other_held.1)

lane_fits : (weight other : ℤ) → IsSmall weight → IsEntry other → SFits w64 (to_z w64 (cond (is_absent other) 0 (of_z w64 other)) +ℤ to_z w64 (of_z w64 weight))
lane_fits weight other small (inl absent) =
    rw (at_absent other absent, to_z-of_z w64 weight (small_fits weight small)) (within (pos 0 +ℤ weight) (omega (arith, ints)) (omega (arith, ints)))
lane_fits weight other weight_small (inr small) =
    rw (at_small other small, to_z-of_z w64 other (small_fits other small), to_z-of_z w64 weight (small_fits weight weight_small)) (sum_fits other weight small weight_small)

-- all sums fit 64 bits
pub all_fit : (n : ℕ) (weight : ℤ) (others : List ℤ) → length others ≡ n → IsSmall weight → Each1 IsEntry others
    → Each2 (Asks2 (add signed) (s_int w64) (s_int w64)) (present_lanes n others) (replicate n (of_z w64 weight))
all_fit zero weight [] counts small held = tt
all_fit zero weight (y ∷ others) counts small held = absurd (omega (arith, counts))
all_fit (suc n) weight [] counts small held = absurd (omega (arith, counts))
all_fit (suc n) weight (y ∷ others) counts small held = (lane_fits weight y small held.0, all_fit n weight others (omega (arith, counts)) small held.1)

-- ---- the fact of each entry, as lemmas on lanes and as clauses have it
pub each_of : (list : List ℤ) → All IsEntry list → Each1 IsEntry list
each_of list all = Each1-from_get_or IsEntry list ABSENT (λ i below. all i ABSENT below)

pub all_of : (list : List ℤ) → Each1 IsEntry list → All IsEntry list
all_of list each = λ i d below. Each1-get_or IsEntry list i d below each

-- ---- numbers that were put into 64 bits and read back
pub entries_by_bits : (entries : List ℤ) → Each1 IsEntry entries → map (to_z w64) (map (of_z w64) entries) ≡ entries
entries_by_bits [] held = refl
entries_by_bits (x ∷ entries) held = joined (to_z-of_z w64 x (entry_fits x held.0)) (entries_by_bits entries held.1)

improved_fits : (weight entry other : ℤ) → IsSmall weight → IsEntry entry → IsEntry other → SFits w64 (improved weight entry other)
improved_fits weight entry other small held (inl absent) = rw (improved_absent weight entry other absent) (entry_fits entry held)
improved_fits weight entry other weight_small held (inr small) =
    elim (lesser entry (other +ℤ weight)) [
      | inl first ↦ rw (improved_small weight entry other small, first) (entry_fits entry held)
      | inr second ↦ rw (improved_small weight entry other small, second) (sum_fits other weight small weight_small)
    ]

improved_by_bits : (weight : ℤ) (entries others : List ℤ) → IsSmall weight → Each1 IsEntry entries → Each1 IsEntry others
    → map (to_z w64) (map (of_z w64) (zip2 (improved weight) entries others)) ≡ zip2 (improved weight) entries others
improved_by_bits weight [] others small held other_held = refl
improved_by_bits weight (x ∷ entries) [] small held other_held = refl
improved_by_bits weight (x ∷ entries) (y ∷ others) small held other_held =
    joined (to_z-of_z w64 (improved weight x y) (improved_fits weight x y small held.0 other_held.0)) (improved_by_bits weight entries others small held.1 other_held.1)

pub held_by_bits : (entries : List ℤ) → All IsEntry entries → All IsEntry (map (to_z w64) (map (of_z w64) entries))
held_by_bits entries held = rw (entries_by_bits entries (each_of entries held)) held

-- eight entries of a row
pub chunk_held : (place : ℕ) (row : List ℤ) → All IsEntry row → All IsEntry (chunk place 8 row)
chunk_held place row held = all_of (chunk place 8 row) (Each1-chunk IsEntry place 8 row (each_of row held))

-- eight entries were put
pub eight_by_bits : (weight : ℤ) (place : ℕ) (old other lanes : List ℤ) → IsSmall weight → place + 8 ≤ length old → length other ≡ length old → All IsEntry (chunk place 8 old) → All IsEntry other
    → lanes ≡ zip2 (improved (to_z w64 (of_z w64 weight))) (map (to_z w64) (map (of_z w64) (chunk place 8 old))) (map (to_z w64) (map (of_z w64) (chunk place 8 other)))
    → ImprovesPart weight place (place + 8) old other (put_chunk place old (map (to_z w64) (map (of_z w64) lanes)))
eight_by_bits weight place old other lanes small within lengths held other_held is =
    let entries = each_of (chunk place 8 old) held in
    let others = each_of (chunk place 8 other) (chunk_held place other other_held) in
    let read : lanes ≡ zip2 (improved weight) (chunk place 8 old) (chunk place 8 other) =
    rw (to_z-of_z w64 weight (small_fits weight small), entries_by_bits _ entries, entries_by_bits _ others) at is in
    let stored : map (to_z w64) (map (of_z w64) lanes) ≡ zip2 (improved weight) (chunk place 8 old) (chunk place 8 other) =
    ap (λ l. map (to_z w64) (map (of_z w64) l)) read ∙ improved_by_bits weight _ _ small entries others in
    eight_put weight place old other _ within lengths stored

-- the eight entries after a part are as they were
pub chunk_behind : (weight : ℤ) (first place : ℕ) (old other now : List ℤ) → ImprovesPart weight first place old other now → place + 8 ≤ length old → All IsEntry old → All IsEntry (chunk place 8 now)
chunk_behind weight first place old other now part within held =
    all_of (chunk place 8 now)
    (Each1-from_get_or IsEntry (chunk place 8 now) ABSENT
    (λ lane below.
    let count : length now ≡ length old = part.count in
    let eight : length (chunk place 8 now) ≡ 8 = length-chunk place 8 now (omega arith) in
    let in_lane : lane < 8 = omega arith in
    rw (get_or-chunk place 8 now lane ABSENT in_lane, part.above (place + lane) (omega arith)) (held (place + lane) ABSENT (omega arith))))
