use Rattle.std.proofs.lemmas.Result.{err_from_is_err_and}
use Rattle.std.proofs.Common.{[], ◌∷◌}
use Rattle.itv_base.specs.Numerals.{end_text}
use Rattle.line_words.specs.Lines.{line_of}
use Rattle.line_words.proofs.Putting.{cut_one, put_two}
use Rattle.slack_report.specs.Text.{verdict_words}
use Rattle.job_brief.proofs.Cells.{two_cells}
use Rattle.job_brief.proofs.put_cells.put_verdict.Goals as goal

pub returns-in_err-put_word : goal.returns-in_err-put_word
returns-in_err-put_word g c =
    let p = err_from_is_err_and c.from_residual.result c.from_residual.ensures.1 in
    rw p.1 (cut_one _ _ _ _ _ (two_cells (line_of (verdict_words c.args.judged.now.word)) (end_text c.args.judged.now.slack.low ∷ end_text c.args.judged.now.slack.high ∷ [])) c.in_err-put_word.ensures)

pub returns : goal.returns
returns g c = put_two _ _ _ _ _ _ c.put_ends.result (two_cells (line_of (verdict_words c.args.judged.now.word)) (end_text c.args.judged.now.slack.low ∷ end_text c.args.judged.now.slack.high ∷ [])) c.in_ok-put_word.ensures c.put_ends.ensures
