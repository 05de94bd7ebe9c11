use Rattle.std.proofs.lemmas.Result.{err_from_is_err_and}
use Rattle.std.proofs.Common.{[], ◌∷◌}
use Rattle.std.specs.Prelude.{codes}
use Rattle.itv_base.specs.Names.{name_view}
use Rattle.itv_base.specs.Numerals.{signed_text}
use Rattle.slack_report.specs.Text.{name_word}
use Rattle.job_why.specs.Step.{by_words}
use Rattle.job_why.proofs.Lining.{line_end}
use Rattle.line_words.proofs.Putting.{cut_one, put_two}
use Rattle.job_why.proofs.put_line.put_step.Goals as goal

pub returns-in_err-put_weight : goal.returns-in_err-put_weight
returns-in_err-put_weight g c =
    let p = err_from_is_err_and c.from_residual.result c.from_residual.ensures.1 in
    rw p.1 (cut_one _ _ _ _ _ (line_end (codes "step") (name_word (name_view c.args.from) ∷ name_word (name_view c.args.to) ∷ signed_text c.args.weight.now ∷ []) (by_words c.args.by.now)) c.in_err-put_weight.ensures)

pub returns : goal.returns
returns g c = put_two _ _ _ _ _ _ c.put_end.result (line_end (codes "step") (name_word (name_view c.args.from) ∷ name_word (name_view c.args.to) ∷ signed_text c.args.weight.now ∷ []) (by_words c.args.by.now)) c.in_ok-put_weight.ensures c.put_end.ensures
