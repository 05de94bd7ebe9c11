use Rattle.std.proofs.Common.{◌∷◌, ◌∙◌, ap}
use Rattle.std.proofs.lemmas.List.{append-nil}
use Rattle.itv_base.specs.Numerals.{number_text}
use Rattle.itv_base.proofs.Written.{puts_same}
use Rattle.redraw.proofs.write.put_cycle.Goals as goal

pub returns : goal.returns
returns g c =
    puts_same _ _ _ _ _
    (ap (λ x. 64 ∷ x) (append-nil c.as_bytes.result.now ∙ c.as_bytes.ensures.value ∙ c.number_text-text.ensures.text ∙ ap number_text c.from.ensures))
    c.put_all.ensures.puts
