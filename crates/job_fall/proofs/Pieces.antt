-- The pieces of a line make its text.
use Rattle.std.proofs.Common.{◌≡◌, ℕ, ℤ, List, [], ◌∷◌, ◌++◌, ap, append_assoc}
use Rattle.std.specs.List.{concat}
use Rattle.std.specs.Prelude.{codes}
use Rattle.itv_base.specs.Numerals.{number_text, signed_text}
use Rattle.itv_base.specs.declared.names.EdgeName.{EdgeName}
use Rattle.itv_base.specs.declared.names.EventId.{EventId}
use Rattle.certificate.specs.Text.{side_letter}
use Rattle.falling.specs.declared.line.Reason.TheVariants.{ByEdge}
use Rattle.job_fall.specs.FallText.{fall_line_text}

-- the end of a line stands after its last word
joined : (a b c d e : List ℕ) → a ++ (32 ∷ (b ++ (32 ∷ (c ++ (46 ∷ (d ++ (e ++ 10 ∷ []))))))) ≡ (a ++ 32 ∷ (b ++ 32 ∷ (c ++ 46 ∷ (d ++ e)))) ++ 10 ∷ []
joined a b c d e = simp append_assoc

pub fall_text_is : (event : EventId) (value : ℤ) (edge : EdgeName) (a b c d e : List ℕ) → a ≡ number_text event.0 → b ≡ signed_text value → c ≡ number_text edge.constraint
    → d ≡ number_text edge.cause → e ≡ side_letter edge.side
    → concat (codes "fall " ∷ a ∷ codes " " ∷ b ∷ codes " " ∷ c ∷ codes "." ∷ d ∷ e ∷ (10 ∷ []) ∷ [])
    ≡ fall_line_text (record { event = event; value = value; reason = ByEdge edge })
fall_text_is event value edge a b c d e is_a is_b is_c is_d is_e =
    rw (is_a, is_b, is_c, is_d, is_e)
    (ap (λ text. 102 ∷ 97 ∷ 108 ∷ 108 ∷ 32 ∷ text) (joined (number_text event.0) (signed_text value) (number_text edge.constraint) (number_text edge.cause) (side_letter edge.side)))
