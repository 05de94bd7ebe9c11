-- Words that are numbers: each number is spelled in one way.
use Rattle.std.proofs.Common.{◌≡◌, ℕ, zero, suc, ◌-◌, ◌^◌, ◌≤◌, ℤ, pos, negsuc, neg_ℤ, true, false, leb, ◌&&◌, [], ◌∷◌, Option, Some, None, option_map, refl, sym, ap, subst, ◌∙◌, arith, codes}
use Rattle.std.specs.Char.{is_ascii_digit}
use Rattle.std.specs.List.{list_all}
use Rattle.std.proofs.lemmas.Bool.{and_parts, leb-true, le-leb, both_ways, ne_eqb}
use Rattle.std.proofs.lemmas.Option.{same_Some}
use Rattle.itv_base.specs.Cuts.{after, stripped}
use Rattle.itv_base.specs.Numerals.{end_text, is_numeral, number_text, signed_text, value_of}
use Rattle.itv_base.proofs.Cuts.{stripped_some}
use Rattle.itv_base.proofs.Numbers.{numeral_is}
use Rattle.itv_base.proofs.Numerals.{numeral-text, text-value, value-text}
use Rattle.itv_base.proofs.Options.{mapped_some}
use Rattle.line_words.specs.Words.{Word, is_word, or_else, when}
use Rattle.line_words.specs.Numbers.{IsLong, IsLongOrOpen, long_in, negative_in, number_in, open_in, positive_in}
use Rattle.line_words.proofs.Inverts.{Inverts, last_some, or_cases_some, when_some}

pub number_inverts : (limit : ℕ) → Inverts (number_in limit) number_text (λ n. n ≤ limit)
number_inverts limit = record {
  takes = λ word n e.
      let w = when_some (is_numeral word && leb (value_of word) limit) (Some (value_of word)) n e in
      let p = and_parts (is_numeral word) (leb (value_of word) limit) w.0 in
      let same : value_of word ≡ n = same_Some (value_of word) n w.1 in
      (sym (text-value word p.0) ∙ ap number_text same, subst (λ m. m ≤ limit) same (leb-true (value_of word) limit p.1));
  again = λ n h. rw (numeral-text n, value-text n, le-leb n limit h) refl;
}

-- ---- numbers with a sign

-- a numeral does not begin with a sign
no_sign : (c : ℕ) (word : Word) → is_ascii_digit c ≡ false → is_numeral word ≡ true → stripped (c ∷ []) word ≡ None
no_sign c [] other h = absurd (omega (arith, (numeral_is [] h).some))
no_sign c (d ∷ word) other h =
    let digit = (and_parts (is_ascii_digit d) (list_all is_ascii_digit word) (numeral_is (d ∷ word) h).digits).0 in
    let apart : d ≡ c → ⊥ = λ e. both_ways (is_ascii_digit c) other (rw e at digit) in
    rw (ne_eqb d c apart) refl

minus_text : (n : ℕ) → 1 ≤ n → signed_text (neg_ℤ (pos n)) ≡ 45 ∷ number_text n
minus_text zero h = absurd (omega arith)
minus_text (suc n) h = refl

minus_long : (n : ℕ) → 1 ≤ n → n ≤ 2 ^ 63 → IsLong (neg_ℤ (pos n))
minus_long zero h k = absurd (omega arith)
minus_long (suc n) h k = record { sfits = omega arith }

-- a number below 0, by its digits after the sign
negative_takes : (digits : Word) (value : ℤ) → negative_in digits ≡ Some value → (45 ∷ digits ≡ signed_text value) × IsLong value
negative_takes digits value e =
    let n = value_of digits in
    let w = when_some (is_numeral digits && (leb 1 n && leb n (2 ^ 63))) (Some (neg_ℤ (pos n))) value e in
    let p = and_parts (is_numeral digits) (leb 1 n && leb n (2 ^ 63)) w.0 in
    let q = and_parts (leb 1 n) (leb n (2 ^ 63)) p.1 in
    let low : 1 ≤ n = leb-true 1 n q.0 in
    let high : n ≤ 2 ^ 63 = leb-true n (2 ^ 63) q.1 in
    let text : 45 ∷ digits ≡ signed_text (neg_ℤ (pos n)) = ap (λ ds. 45 ∷ ds) (sym (text-value digits p.0)) ∙ sym (minus_text n low) in
    subst (λ z. (45 ∷ digits ≡ signed_text z) × IsLong z) (same_Some (neg_ℤ (pos n)) value w.1) (text, minus_long n low high)

positive_takes : (word : Word) (value : ℤ) → positive_in word ≡ Some value → (word ≡ signed_text value) × IsLong value
positive_takes word value e =
    let n = value_of word in
    let w = when_some (is_numeral word && leb n (2 ^ 63 - 1)) (Some (pos n)) value e in
    let p = and_parts (is_numeral word) (leb n (2 ^ 63 - 1)) w.0 in
    let high : n ≤ 2 ^ 63 - 1 = leb-true n (2 ^ 63 - 1) p.1 in
    let long : IsLong (pos n) = record { sfits = omega arith } in
    subst (λ z. (word ≡ signed_text z) × IsLong z) (same_Some (pos n) value w.1) (sym (text-value word p.0), long)

-- what was read after a sign, or without one
after_some : (o : Option Word) (f : Word → Option ℤ) (other : Option ℤ) (value : ℤ) (P : Type 0) → after o f other ≡ Some value
    → ((rest : Word) → o ≡ Some rest → f rest ≡ Some value → P) → (other ≡ Some value → P) → P
after_some None f other value P e here there = there e
after_some (Some rest) f other value P e here there = here rest refl e

pub long_takes : (word : Word) (value : ℤ) → long_in word ≡ Some value → (word ≡ signed_text value) × IsLong value
unfolding long_in
long_takes word value e =
    after_some (stripped (codes "-") word) negative_in (positive_in word) value _ e
    (λ rest s h. let t = negative_takes rest value h in (stripped_some (codes "-") word rest s ∙ t.0, t.1))
    (λ h. positive_takes word value h)

pub long_again : (value : ℤ) → IsLong value → long_in (signed_text value) ≡ Some value
unfolding long_in
long_again (pos n) fits =
    let high : leb n (2 ^ 63 - 1) ≡ true = le-leb n (2 ^ 63 - 1) (omega (arith, fits.sfits)) in
    rw (no_sign 45 (number_text n) refl (numeral-text n), numeral-text n, value-text n, high) refl
long_again (negsuc n) fits =
    let low : leb 1 (suc n) ≡ true = le-leb 1 (suc n) (omega arith) in
    let high : leb (suc n) (2 ^ 63) ≡ true = le-leb (suc n) (2 ^ 63) (omega (arith, fits.sfits)) in
    rw (numeral-text (suc n), value-text (suc n), low, high) refl

pub long_inverts : Inverts long_in signed_text IsLong
long_inverts = record { takes = long_takes; again = long_again }

star_is_no_number : long_in (codes "*") ≡ None
unfolding long_in
star_is_no_number = refl

open_takes : (word : Word) (end : Option ℤ) → open_in word ≡ Some end → (word ≡ end_text end) × IsLongOrOpen end
unfolding open_in
open_takes word end e =
    or_cases_some (option_map (λ value. Some value) (long_in word)) (when (is_word word (codes "*")) (Some None)) end _ e
    (λ h. let m = mapped_some (λ (value : ℤ). Some value) (long_in word) end h in
    subst (λ o. (word ≡ end_text o) × IsLongOrOpen o) m.2 (long_takes word m.0 m.1))
    (λ h. last_some word (codes "*") None end (λ o. (word ≡ end_text o) × IsLongOrOpen o) h (λ is. (is, tt)))

open_again : (end : Option ℤ) → IsLongOrOpen end → open_in (end_text end) ≡ Some end
unfolding open_in
open_again None fits = star_is
  where
    star_is : or_else (option_map (λ value. Some value) (long_in (codes "*"))) (Some None) ≡ Some None
    star_is = rw star_is_no_number refl
open_again (Some value) fits = rw (long_again value fits) refl

pub open_inverts : Inverts open_in end_text IsLongOrOpen
open_inverts = record { takes = open_takes; again = open_again }
