use Rattle.std.proofs.lemmas.Result.{err_from_is_err_and}
use Rattle.std.proofs.Common.{[], ◌∷◌}
use Rattle.itv_base.specs.Numerals.{end_text}
use Rattle.slack_report.specs.Text.{verdict_words}
use Rattle.line_words.proofs.Putting.{cut_one, put_two, spaced_two}
use Rattle.job_brief.proofs.put_line.put_verdict.Goals as goal

pub returns-in_err-put_verdict_words : goal.returns-in_err-put_verdict_words
returns-in_err-put_verdict_words g c =
    let p = err_from_is_err_and c.from_residual.result c.from_residual.ensures.1 in
    let slack = c.args.judged.now.slack in
    rw p.1 (cut_one _ _ _ _ _ (spaced_two (verdict_words c.args.judged.now.word) (end_text slack.low ∷ end_text slack.high ∷ [])) c.in_err-put_verdict_words.ensures.puts)

pub returns : goal.returns
returns g c =
    let slack = c.args.judged.now.slack in
    put_two _ _ _ _ _ _ c.put_slack.result (spaced_two (verdict_words c.args.judged.now.word) (end_text slack.low ∷ end_text slack.high ∷ [])) c.in_ok-put_verdict_words.ensures.puts
    c.put_slack.ensures
