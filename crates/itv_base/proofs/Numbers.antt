-- Numbers and the numerals that write them.
use Rattle.std.proofs.Common.{◌≡◌, ℕ, ◌+◌, ◌*◌, ◌^◌, ◌<◌, ◌≤◌, true, false, not, eqb, leb, ltb, ◌&&◌, ◌||◌, List, [], ◌∷◌, length, get_or, Option, Some, None, Result, Ok, Err, refl, arith, inl, inr, rules, if◌then◌else◌, nat_le}
use Rattle.std.specs.List.{list_all}
use Rattle.std.specs.Result.{result_ok}
use Rattle.std.specs.Char.{is_ascii_digit}
use Rattle.std.specs.Str.Parse.{digits_value, digits_value_after, ParsesUnsigned}
use Rattle.std.proofs.lemmas.Bool.{eqb-true, ltb-true, not-true, and_parts, leb-true, lt-leb, eq-eqb, both_ways, or_cases, cases_lt}
use Rattle.std.proofs.lemmas.Str.Parse.{IsNumeralModel, IsDigitsTest, numerals_by_value, parse_digits}
use Rattle.std.specs.Char.{digit_value}
use Rattle.std.proofs.lemmas.List.{nil_from_length}
use Rattle.std.proofs.lemmas.Str.{digit_value_digit}
use lib.Pointwise.{pointwise}
use Rattle.itv_base.specs.Numerals.{is_numeral, value_of}

-- ---- digits, by the words of `parse`

digits_test : IsDigitsTest (λ ds. list_all is_ascii_digit ds ≡ true)
digits_test = search rules

own : IsNumeralModel (λ ds. list_all is_ascii_digit ds ≡ true) (digits_value 10)
own = numerals_by_value (λ ds. list_all is_ascii_digit ds ≡ true) digits_test

-- what the test of a numeral says
pub record IsNumeral (ds : List ℕ) : Type 0 where
  pub digits : list_all is_ascii_digit ds ≡ true
  pub some : 0 < length ds
  pub front : get_or ds 0 0 ≡ 48 → length ds ≡ 1

pub numeral_is : (ds : List ℕ) → is_numeral ds ≡ true → IsNumeral ds
numeral_is ds h =
    let a = and_parts (list_all is_ascii_digit ds) (ltb 0 (length ds) && (not (eqb (get_or ds 0 0) 48) || eqb (length ds) 1)) h in
    let b = and_parts (ltb 0 (length ds)) (not (eqb (get_or ds 0 0) 48) || eqb (length ds) 1) a.1 in
    record {
      digits = a.0;
      some = ltb-true 0 (length ds) b.0;
      front = λ zero_first. elim (or_cases (not (eqb (get_or ds 0 0) 48)) (eqb (length ds) 1) b.1) [
        | inl other ↦ absurd (both_ways _ (not-true _ other) (eq-eqb _ 48 zero_first))
        | inr single ↦ eqb-true (length ds) 1 single
      ];
    }

-- where `parse` fails at a numeral, its value is above every limit of 64 bits
pub parse_none : {E : Type 0} (ds : List ℕ) (limit : ℕ) (r : Result ℕ E) → is_numeral ds ≡ true → limit < 2 ^ 64 → ParsesUnsigned 64 10 ds r → result_ok r ≡ None
    → ◌≡◌ {A = Option ℕ} None (if nat_le (value_of ds) limit then Some (value_of ds) else None)
parse_none ds limit (Ok n) h small p e = absurd cc
parse_none ds limit (Err e) h small p is =
    let numeral = numeral_is ds h in
    let fails = parse_digits own 64 ds (Err e) p numeral.digits in
    elim (cases_lt (value_of ds) (2 ^ 64)) [
      | inl lt ↦ absurd (fails (numeral.some, lt))
      | inr ge ↦ (let above : leb (value_of ds) limit ≡ false = lt-leb (value_of ds) limit (omega arith) in rw above refl)
    ]

-- the digits that follow a number do not make it less
after-ge : (n : ℕ) (cs : List ℕ) → n ≤ digits_value_after 10 n cs
after-ge n [] = omega arith
after-ge n (c ∷ cs) = omega (arith, after-ge (n * 10 + digit_value c) cs)

pub digit_range : (b : ℕ) → is_ascii_digit b ≡ true → (48 ≤ b) × (b ≤ 57)
digit_range b h = let p = and_parts (leb 48 b) (leb b 57) h in (leb-true 48 b p.0, leb-true b 57 p.1)

-- a numeral that begins with a zero is `0`
only_zero : (c : ℕ) (cs : List ℕ) → is_numeral (c ∷ cs) ≡ true → c ≡ 48 → pointwise eqb (c ∷ cs) (48 ∷ []) ≡ true
only_zero c cs h is =
    let rest : cs ≡ [] = nil_from_length cs (omega (arith, (numeral_is (c ∷ cs) h).front is)) in
    rw (rest, is) refl

-- a numeral other than `0` is above 0
pub positive : (ds : List ℕ) → is_numeral ds ≡ true → pointwise eqb ds (48 ∷ []) ≡ false → 0 < value_of ds
positive [] h apart = absurd cc
positive (c ∷ cs) h apart =
    let digit : is_ascii_digit c ≡ true = (and_parts (is_ascii_digit c) (list_all is_ascii_digit cs) (numeral_is (c ∷ cs) h).digits).0 in
    let range : (48 ≤ c) × (c ≤ 57) = digit_range c digit in
    let front : (c ≡ 48) → ⊥ = λ is. both_ways _ apart (only_zero c cs h is) in
    let least : 0 + digit_value c ≤ value_of (c ∷ cs) = after-ge (0 + digit_value c) cs in
    omega (arith, digit_value_digit c range)
