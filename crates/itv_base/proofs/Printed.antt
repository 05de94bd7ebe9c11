-- What `itoa` prints is the text of the number.
use Rattle.std.proofs.Common.{◌≡◌, ℕ, suc, ◌^◌, ◌<◌, List, ◌∷◌, ℤ, pos, negsuc, sym, ap, ◌∙◌, arith, inl, inr, w64}
use Rattle.std.specs.Fmt.{decimal, signed_decimal}
use Rattle.std.specs.Prelude.{FitsSigned}
use mir.Val.{to_z, of_z}
use Rattle.std.proofs.lemmas.Bool.{cases_eq}
use Rattle.std.proofs.lemmas.Int.{to_z-of_z}
use Rattle.std.proofs.lemmas.Fmt.{decimal_digit, decimal-digits_of}
use Rattle.itv_base.specs.Numerals.{number_text, signed_text}
use Rattle.itv_base.proofs.Numerals.{zero_text, above_text}

pub number_text-decimal : (n : ℕ) → n < 2 ^ 64 → number_text n ≡ decimal n
number_text-decimal n small =
    elim (cases_eq n 0) [
      | inl zero_is ↦ zero_text n zero_is ∙ sym (ap decimal zero_is ∙ decimal_digit 0 (omega arith))
      | inr above ↦ above_text n above ∙ sym (decimal-digits_of n (omega arith) small)
    ]

pub signed_text-decimal : (z : ℤ) → FitsSigned w64 z → signed_text z ≡ signed_decimal z
signed_text-decimal (pos n) fits = number_text-decimal n (omega (arith, fits.sfits))
signed_text-decimal (negsuc n) fits = ap (λ x. 45 ∷ x) (number_text-decimal (suc n) (omega (arith, fits.sfits)))

-- what is printed for a number
pub printed_is : (z : ℤ) (text : List ℕ) → FitsSigned w64 z → text ≡ signed_decimal (to_z w64 (of_z w64 z)) → text ≡ signed_text z
printed_is z text fits printed = printed ∙ ap signed_decimal (to_z-of_z w64 z fits) ∙ sym (signed_text-decimal z fits)
