-- The text of a number and the value of a numeral are inverse.
use Rattle.std.proofs.Common.{◌≡◌, ℕ, suc, ◌+◌, ◌*◌, ◌/◌, ◌%◌, ◌<◌, ◌≤◌, true, false, eqb, ltb, leb, List, [], ◌∷◌, ◌++◌, length, get_or, map, refl, sym, ap, ◌∙◌, arith, inl, inr, append_assoc}
use Rattle.std.specs.List.{list_all}
use Rattle.std.specs.Char.{is_ascii_digit, digit_value}
use Rattle.std.specs.Int.Digits.{digits_of, number_from_digits, number_from_digits_after, AllBelowBase}
use Rattle.std.proofs.lemmas.Bool.{and_parts, and_from, ne_eqb, lt-ltb, le-leb, cases_eq}
use Rattle.std.proofs.lemmas.List.{append-nil, nil_from_length}
use Rattle.std.proofs.lemmas.Nat.{mod-mul-add, div-mul-add}
use Rattle.std.proofs.lemmas.Str.{digit_value_digit}
use Rattle.std.proofs.lemmas.Int.Digits.{digits_value_is, digits_of_step, all_below_base_digits_of, first_digits_of, number_digits_of, number_after_ge}
use Rattle.itv_base.specs.Numerals.{number_text, is_numeral, value_of}
use Rattle.itv_base.proofs.Numbers.{digit_range, IsNumeral, numeral_is}

-- if digits follow a number above 0, the digits of the whole are its digits and then these
digits_after : (n : ℕ) (ds : List ℕ) → 0 < n → AllBelowBase 10 ds → digits_of 10 (number_from_digits_after 10 n ds) ≡ digits_of 10 n ++ ds
digits_after n [] above fits = sym (append-nil (digits_of 10 n))
digits_after n (d ∷ ds) above fits =
    let more : 0 < n * 10 + d = omega arith in
    let front : digits_of 10 (n * 10 + d) ≡ digits_of 10 n ++ d ∷ [] =
    digits_of_step 10 (n * 10 + d) (omega arith) more ∙ rw (div-mul-add n 10 d fits.0, mod-mul-add n 10 d fits.0) refl in
    digits_after (n * 10 + d) ds more fits.1 ∙ ap (λ x. x ++ ds) front ∙ append_assoc (digits_of 10 n) (d ∷ []) ds

-- one digit above 0
one_digit : (d : ℕ) → 0 < d → d < 10 → digits_of 10 d ≡ d ∷ []
one_digit d above below =
    let tens : d / 10 ≡ 0 = omega arith in
    let ones : d % 10 ≡ d = omega arith in
    digits_of_step 10 d (omega arith) above ∙ rw (tens, ones) refl

-- the digits of the number that digits write are these digits, if the first is above 0
digits_from : (d : ℕ) (ds : List ℕ) → 0 < d → AllBelowBase 10 (d ∷ ds) → digits_of 10 (number_from_digits 10 (d ∷ ds)) ≡ d ∷ ds
digits_from d ds above fits =
    let start : number_from_digits 10 (d ∷ ds) ≡ number_from_digits_after 10 d ds = ap (λ n. number_from_digits_after 10 n ds) (omega arith) in
    ap (digits_of 10) start ∙ digits_after d ds above fits.1 ∙ ap (λ x. x ++ ds) (one_digit d above fits.0)

-- ---- digits as characters

values_fit : (ds : List ℕ) → list_all is_ascii_digit ds ≡ true → AllBelowBase 10 (map digit_value ds)
values_fit [] h = tt
values_fit (c ∷ cs) h =
    let p = and_parts (is_ascii_digit c) (list_all is_ascii_digit cs) h in
    let range = digit_range c p.0 in
    (omega (arith, digit_value_digit c range), values_fit cs p.1)

-- the characters of the values of digits are the digits
chars-values : (ds : List ℕ) → list_all is_ascii_digit ds ≡ true → map (λ d. 48 + d) (map digit_value ds) ≡ ds
chars-values [] h = refl
chars-values (c ∷ cs) h =
    let p = and_parts (is_ascii_digit c) (list_all is_ascii_digit cs) h in
    let same : 48 + digit_value c ≡ c = omega (arith, digit_value_digit c (digit_range c p.0)) in
    ap (λ x. x ∷ map (λ d. 48 + d) (map digit_value cs)) same ∙ ap (λ xs. c ∷ xs) (chars-values cs p.1)

values-chars : (ds : List ℕ) → AllBelowBase 10 ds → map digit_value (map (λ d. 48 + d) ds) ≡ ds
values-chars [] fits = refl
values-chars (d ∷ ds) fits =
    let same : digit_value (48 + d) ≡ d = omega (arith, digit_value_digit (48 + d) (omega arith, omega arith)) in
    ap (λ x. x ∷ map digit_value (map (λ e. 48 + e) ds)) same ∙ ap (λ xs. d ∷ xs) (values-chars ds fits.1)

chars_digits : (ds : List ℕ) → AllBelowBase 10 ds → list_all is_ascii_digit (map (λ d. 48 + d) ds) ≡ true
chars_digits [] fits = refl
chars_digits (d ∷ ds) fits =
    and_from (is_ascii_digit (48 + d)) _ (and_from (leb 48 (48 + d)) (leb (48 + d) 57) (le-leb 48 (48 + d) (omega arith)) (le-leb (48 + d) 57 (omega arith))) (chars_digits ds fits.1)

-- ---- numbers

pub zero_text : (n : ℕ) → n ≡ 0 → number_text n ≡ 48 ∷ []
zero_text n h = rw h refl

pub above_text : (n : ℕ) → (n ≡ 0 → ⊥) → number_text n ≡ map (λ d. 48 + d) (digits_of 10 n)
above_text n h = rw (ne_eqb n 0 h) refl

-- the text of the value of a numeral is the numeral
pub text-value : (ds : List ℕ) → is_numeral ds ≡ true → number_text (value_of ds) ≡ ds
text-value ds h = text_at ds (numeral_is ds h)
  where
    text_at : (ds : List ℕ) → IsNumeral ds → number_text (value_of ds) ≡ ds
    text_at [] numeral = absurd (omega (arith, numeral.some))
    text_at (c ∷ cs) numeral =
        elim (cases_eq c 48) [
          | inl is ↦ (let rest : cs ≡ [] = nil_from_length cs (omega (arith, numeral.front is)) in rw (is, rest) refl)
          | inr other ↦ (
              let range = digit_range c (and_parts (is_ascii_digit c) (list_all is_ascii_digit cs) numeral.digits).0 in
              let first : 0 < digit_value c = omega (arith, digit_value_digit c range) in
              let values = map digit_value (c ∷ cs) in
              let least : 0 + digit_value c ≤ number_from_digits 10 values = number_after_ge 10 (0 + digit_value c) (map digit_value cs) (omega arith) in
              let above : number_from_digits 10 values ≡ 0 → ⊥ = λ none. omega arith in
              ap number_text (digits_value_is 10 (c ∷ cs)) ∙ above_text (number_from_digits 10 values) above
              ∙ ap (map (λ d. 48 + d)) (digits_from (digit_value c) (map digit_value cs) first (values_fit (c ∷ cs) numeral.digits)) ∙ chars-values (c ∷ cs) numeral.digits)
        ]

pub value-text : (n : ℕ) → value_of (number_text n) ≡ n
value-text n =
    elim (cases_eq n 0) [
      | inl zero_is ↦ ap value_of (zero_text n zero_is) ∙ sym zero_is
      | inr above ↦ ap value_of (above_text n above) ∙ digits_value_is 10 (map (λ d. 48 + d) (digits_of 10 n)) ∙ ap (number_from_digits 10) (values-chars (digits_of 10 n) (all_below_base_digits_of 10 n (omega arith))) ∙ number_digits_of 10 n (omega arith)
    ]

pub digits-text : (n : ℕ) → list_all is_ascii_digit (number_text n) ≡ true
digits-text n =
    elim (cases_eq n 0) [
      | inl zero_is ↦ rw (zero_text n zero_is) refl
      | inr above ↦ rw (above_text n above) (chars_digits (digits_of 10 n) (all_below_base_digits_of 10 n (omega arith)))
    ]

chars_numeral : (ds : List ℕ) → AllBelowBase 10 ds → 0 < get_or ds 0 0 → is_numeral (map (λ d. 48 + d) ds) ≡ true
chars_numeral [] fits first = absurd (omega arith)
chars_numeral (d ∷ ds) fits first =
    let apart : eqb (48 + d) 48 ≡ false = ne_eqb (48 + d) 48 (λ e. omega arith) in
    let some : ltb 0 (suc (length (map (λ e. 48 + e) ds))) ≡ true = lt-ltb 0 _ (omega arith) in
    rw (chars_digits (d ∷ ds) fits, apart, some) refl

pub numeral-text : (n : ℕ) → is_numeral (number_text n) ≡ true
numeral-text n =
    elim (cases_eq n 0) [
      | inl zero_is ↦ rw (zero_text n zero_is) refl
      | inr above ↦ rw (above_text n above) (chars_numeral (digits_of 10 n) (all_below_base_digits_of 10 n (omega arith)) (first_digits_of 10 n (omega arith) (omega arith)))
    ]
