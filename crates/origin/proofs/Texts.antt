-- Different origins have different texts.
use Rattle.std.proofs.Common.{◌≡◌, ℕ, true, List, [], ◌∷◌, ◌++◌, refl, sym, ap, ◌∙◌}
use Rattle.std.specs.Prelude.{codes}
use Rattle.std.specs.List.{list_all}
use Rattle.std.specs.Char.{is_ascii_digit}
use Rattle.std.proofs.lemmas.Bool.{and_parts, eqb-false}
use Rattle.itv_base.specs.Numerals.{number_text, value_of}
use Rattle.itv_base.proofs.Numerals.{digits-text, value-text}
use Rattle.origin.specs.Text.{origin_text}
use Rattle.origin.specs.declared.origin.Origin.{Origin}
use Rattle.origin.specs.declared.origin.Origin.TheVariants.{Lane, Edge, Pin, Wire}

same_number : (a b : ℕ) → number_text a ≡ number_text b → a ≡ b
same_number a b e = sym (value-text a) ∙ ap value_of e ∙ value-text b

-- digits end before the first space
digits_end : (xs ys rest other : List ℕ) → list_all is_ascii_digit xs ≡ true → list_all is_ascii_digit ys ≡ true → xs ++ (32 ∷ rest) ≡ ys ++ (32 ∷ other) → (xs ≡ ys) × (rest ≡ other)
digits_end [] [] rest other in_x in_y e = (refl, cc e)
digits_end [] (y ∷ ys) rest other in_x in_y e =
    let first : y ≡ 32 = cc e in
    let digit : is_ascii_digit 32 ≡ true = rw first at ((and_parts (is_ascii_digit y) (list_all is_ascii_digit ys) in_y).0) in
    absurd (cc digit)
digits_end (x ∷ xs) [] rest other in_x in_y e =
    let first : x ≡ 32 = cc e in
    let digit : is_ascii_digit 32 ≡ true = rw first at ((and_parts (is_ascii_digit x) (list_all is_ascii_digit xs) in_x).0) in
    absurd (cc digit)
digits_end (x ∷ xs) (y ∷ ys) rest other in_x in_y e =
    let first : x ≡ y = cc e in
    let more : xs ++ (32 ∷ rest) ≡ ys ++ (32 ∷ other) = cc e in
    let next = digits_end xs ys rest other (and_parts (is_ascii_digit x) (list_all is_ascii_digit xs) in_x).1 (and_parts (is_ascii_digit y) (list_all is_ascii_digit ys) in_y).1 more in
    (rw (first, next.0) refl, next.1)

-- if two texts begin with a number and a space, and are the same, so are the numbers
numbers_end : (a b : ℕ) (rest other : List ℕ) → number_text a ++ (32 ∷ rest) ≡ number_text b ++ (32 ∷ other) → (a ≡ b) × (rest ≡ other)
numbers_end a b rest other e =
    let cut = digits_end (number_text a) (number_text b) rest other (digits-text a) (digits-text b) e in
    (same_number a b cut.0, cut.1)

abbrev first : List ℕ → ℕ
first [] = 0
first (x ∷ xs) = x

pub texts_differ : (a b : Origin) → origin_text a ≡ origin_text b → a ≡ b
texts_differ (Lane n) (Lane m) e = ap Lane (numbers_end n m (codes "order") (codes "order") (cc e)).0
texts_differ (Lane n) (Edge m) e = absurd (eqb-false 108 101 refl (ap first e))
texts_differ (Lane n) (Pin m k) e = absurd (eqb-false 108 110 refl (ap first e))
texts_differ (Lane n) (Wire m) e = absurd (eqb-false 108 119 refl (ap first e))
texts_differ (Edge n) (Lane m) e = absurd (eqb-false 101 108 refl (ap first e))
texts_differ (Edge n) (Edge m) e = ap Edge (same_number n m (cc e))
texts_differ (Edge n) (Pin m k) e = absurd (eqb-false 101 110 refl (ap first e))
texts_differ (Edge n) (Wire m) e = absurd (eqb-false 101 119 refl (ap first e))
texts_differ (Pin n i) (Lane m) e = absurd (eqb-false 110 108 refl (ap first e))
texts_differ (Pin n i) (Edge m) e = absurd (eqb-false 110 101 refl (ap first e))
texts_differ (Pin n i) (Pin m k) e =
    let nets = numbers_end n m (codes "pin " ++ number_text i) (codes "pin " ++ number_text k) (cc e) in
    let pins = same_number i k (cc nets.1) in
    rw (nets.0, pins) refl
texts_differ (Pin n i) (Wire m) e = absurd (eqb-false 110 119 refl (ap first e))
texts_differ (Wire n) (Lane m) e = absurd (eqb-false 119 108 refl (ap first e))
texts_differ (Wire n) (Edge m) e = absurd (eqb-false 119 101 refl (ap first e))
texts_differ (Wire n) (Pin m k) e = absurd (eqb-false 119 110 refl (ap first e))
texts_differ (Wire n) (Wire m) e = ap Wire (same_number n m (cc e))
