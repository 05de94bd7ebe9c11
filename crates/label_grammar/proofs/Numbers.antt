-- The digits of a number after its sign.
use Rattle.std.proofs.Common.{◌≡◌, ℕ, Bool, true, false, eqb, ltb, List, [], ◌∷◌, Some, refl, sym, ap, ◌∙◌}
use Rattle.std.specs.List.{take_while}
use Rattle.std.specs.Char.{is_ascii_digit}
use Rattle.std.proofs.lemmas.Bool.{lt-ltb}
use lib.Pointwise.{pointwise}
use Rattle.itv_base.specs.Cuts.{after_while}
use Rattle.itv_base.specs.Numerals.{is_numeral, value_of, signed}
use Rattle.itv_base.proofs.Numbers.{positive}
use Rattle.label_grammar.specs.Reading.{number_from, number_of}

-- what is read of a numeral that is not `0`, after a minus
number_given : (negative : Bool) (digits rest : List ℕ) → is_numeral digits ≡ true → (negative ≡ true → pointwise eqb digits (48 ∷ []) ≡ false)
    → number_from negative digits rest ≡ Some (Some (signed negative (value_of digits)), rest)
number_given false digits rest h apart = rw h refl
number_given true digits rest h apart =
    let above : ltb 0 (value_of digits) ≡ true = lt-ltb 0 (value_of digits) (positive digits h (apart refl)) in
    rw (h, above) refl

pub number_read : (negative : Bool) (text digits rest : List ℕ) → digits ≡ take_while is_ascii_digit text → rest ≡ after_while is_ascii_digit text
    → is_numeral digits ≡ true → (negative ≡ true → pointwise eqb digits (48 ∷ []) ≡ false) → Some (Some (signed negative (value_of digits)), rest) ≡ number_of negative text
number_read negative text digits rest front behind h apart =
    sym (number_given negative digits rest h apart) ∙ ap (λ d. number_from negative d rest) front ∙ ap (number_from negative (take_while is_ascii_digit text)) behind
