use Rattle.std.proofs.Common.{◌≡◌, ℕ, List, ◌++◌, ◌∷◌, [], ◌∙◌, sym, ap, arith}
use Rattle.std.proofs.lemmas.List.{append-nil}
use Rattle.itv_base.specs.Numerals.{number_text}
use Rattle.label_grammar.specs.Label.{shift_text}
use Rattle.label_grammar.proofs.Pieces.{shift_above}
use Rattle.label_grammar.proofs.writing.write_shift.Goals as goal

pub returns : goal.returns
returns g c =
    let digits : List ℕ = c.as_bytes.result.now in
    let text : 43 ∷ (digits ++ []) ≡ shift_text c.args.shift =
    ap (λ x. 43 ∷ x) (append-nil digits ∙ c.as_bytes.ensures.value ∙ c.number_text-digits.ensures.text ∙ ap number_text c.from.ensures) ∙ sym (shift_above c.args.shift (omega arith)) in
    rw (← text) c.put_all.ensures.puts
