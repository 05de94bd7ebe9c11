-- Numbers that most sizes are above.
use Rattle.std.proofs.Common.{◌≡◌, ℕ, suc, ◌*◌, ◌<◌, ◌≤◌, Bool, true, false, cond, nat_lt, ◌||◌, List, [], ◌∷◌, length, get_or, inl, inr, refl, ap, sym, ◌∙◌, arith}
use Rattle.std.specs.List.{list_any, count_by}
use Rattle.std.proofs.lemmas.Bool.{both_ways, cases_lt, le-ltb, lt-ltb, ltb-true}
use Rattle.std.proofs.lemmas.Bool.Decides.{nat_tests}
use Rattle.std.proofs.lemmas.List.Sums.{sum_by-cons}
use Rattle.lint.specs.Step.{IsMiddle, has_most_above, is_below}
use Rattle.lint.specs.Units.{is_tiny}

-- ---- how many sizes are above a number

abbrev above : ℕ → ℕ → ℕ
above number size = cond (nat_lt number size) 1 0

one_falls : (less more size : ℕ) → less ≤ more → above more size ≤ above less size
one_falls less more size le = grind (arith, nat_tests)

count_falls : (sizes : List ℕ) (less more : ℕ) → less ≤ more → count_by (nat_lt more) sizes ≤ count_by (nat_lt less) sizes
count_falls [] less more le = omega arith
count_falls (size ∷ sizes) less more le =
    omega (arith, sum_by-cons (above more) size sizes, sum_by-cons (above less) size sizes, one_falls less more size le, count_falls sizes less more le)

none_above : (sizes : List ℕ) (most : ℕ) → ((k : ℕ) → get_or sizes k 0 ≤ most) → count_by (nat_lt most) sizes ≡ 0
none_above [] most all = refl
none_above (size ∷ sizes) most all =
    let first : above most size ≡ 0 = ap (λ b. cond b 1 0) (le-ltb most size (all 0)) in
    omega (arith, sum_by-cons (above most) size sizes, first, none_above sizes most (λ k. all (suc k)))

-- ---- most sizes

-- no size is above a number that all sizes are within
pub not_most : (sizes : List ℕ) (most : ℕ) → ((k : ℕ) → get_or sizes k 0 ≤ most) → has_most_above sizes most ≡ false
not_most sizes most all = le-ltb (length sizes) (2 * count_by (nat_lt most) sizes) (omega (arith, none_above sizes most all))

-- most sizes are above each lower number too
pub most_falls : (sizes : List ℕ) (less more : ℕ) → less ≤ more → has_most_above sizes more ≡ true → has_most_above sizes less ≡ true
most_falls sizes less more le is =
    lt-ltb (length sizes) (2 * count_by (nat_lt less) sizes) (omega (arith, ltb-true (length sizes) (2 * count_by (nat_lt more) sizes) is, count_falls sizes less more le))

not_both : (answer : Bool) → (answer ≡ true → ⊥) → answer ≡ false
not_both true never = absurd (never refl)
not_both false never = refl

-- the numbers below which the middle lies are just those that most sizes are above
pub middle_is : (sizes : List ℕ) (middle : ℕ) → ((number : ℕ) → number < middle → has_most_above sizes number ≡ true) → has_most_above sizes middle ≡ false → IsMiddle sizes middle
middle_is sizes middle below not = λ number. elim (cases_lt number middle) [
  | inl less ↦ below number less ∙ sym (lt-ltb number middle less)
  | inr more ↦ not_both (has_most_above sizes number) (λ is. both_ways (has_most_above sizes middle) not (most_falls sizes middle number more is)) ∙ sym (le-ltb number middle more)
]

-- an end is tiny just where 200 times its size is below the middle
pub tiny_are : (sizes : List ℕ) (middle : ℕ) → IsMiddle sizes middle → (ends : List ℕ) → list_any (is_below middle) ends ≡ list_any (is_tiny sizes) ends
tiny_are sizes middle is [] = refl
tiny_are sizes middle is (size ∷ ends) =
    ap (λ b. b || list_any (is_below middle) ends) (sym (is (200 * size))) ∙ ap (λ b. is_tiny sizes size || b) (tiny_are sizes middle is ends)
