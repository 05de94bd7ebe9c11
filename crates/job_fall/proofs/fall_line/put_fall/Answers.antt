use Rattle.std.proofs.Common.{ap, ◌∙◌}
use Rattle.std.proofs.lemmas.Int.{to_z-of_z}
use mir.Syntax.{w64}
use Rattle.itv_base.specs.Numerals.{number_text, signed_text}
use Rattle.itv_base.proofs.Written.{puts_same}
use Rattle.job_fall.proofs.Pieces.{fall_text_is}
use Rattle.job_fall.proofs.fall_line.put_fall.Goals as goal

pub returns : goal.returns
returns g c =
    puts_same _ _ _ _ c.put_all.result
    (fall_text_is c.args.event c.args.value c.args.edge _ _ _ _ _ (c.as_bytes.ensures.value ∙ (c.number_text.ensures.text ∙ ap number_text c.from.ensures))
    (c.as_bytes-2.ensures.value ∙ (c.signed_text.ensures.text ∙ ap signed_text (to_z-of_z w64 c.args.value c.ranges.value))) (c.as_bytes-3.ensures.value ∙ (c.number_text-2.ensures.text ∙ ap number_text c.from-2.ensures))
    (c.as_bytes-4.ensures.value ∙ (c.number_text-3.ensures.text ∙ ap number_text c.from-3.ensures)) c.side_letter.ensures.letter) c.put_all.ensures.puts
