use Rattle.std.proofs.Common.{◌≡◌, true, false, eqb, [], ◌∷◌, ◌∙◌, sym}
use Rattle.std.proofs.lemmas.Bool.{both_ways}
use lib.Pointwise.{pointwise}
use Rattle.label_grammar.proofs.Numbers.{number_read}
use Rattle.label_grammar.proofs.parts.read_number.Goals as goal
use Rattle.label_grammar.proofs.parts.read_number.Goals.{then-is_negative, else-is_negative}

pub returns : goal.returns
returns c =
    let split = c.split_digits.ensures in
    let numeral = sym c.is_numeral.ensures.test ∙ c.if-not-is_numeral.false in
    let apart : c.args.is_negative ≡ true → pointwise eqb c.split_digits.result.0.now (48 ∷ []) ≡ false = λ negative. elim c.if-is_negative.branch [
      | then-is_negative w ↦ sym w.eq.ensures ∙ sym w.value-is ∙ c.if-eq.false
      | else-is_negative w ↦ absurd (both_ways _ w.if-is_negative.false negative)
    ] in
    number_read c.args.is_negative c.args.text.now _ _ split.digits split.rest numeral apart
