use Rattle.std.proofs.lemmas.Result.{err_from_is_err_and}
use Rattle.slack_report.specs.Text.{bound_words}
use Rattle.line_words.proofs.Putting.{cut_one, put_two, spaced_two}
use Rattle.job_brief.proofs.put_line.put_bounds.Goals as goal

pub returns-in_err-put_bound_words : goal.returns-in_err-put_bound_words
returns-in_err-put_bound_words g c =
    let p = err_from_is_err_and c.from_residual.result c.from_residual.ensures.1 in
    rw p.1 (cut_one _ _ _ _ _ (spaced_two (bound_words c.args.both.now.least) (bound_words c.args.both.now.greatest)) c.in_err-put_bound_words.ensures.puts)

pub returns : goal.returns
returns g c =
    put_two _ _ _ _ _ _ c.put_bound_words-2.result (spaced_two (bound_words c.args.both.now.least) (bound_words c.args.both.now.greatest)) c.in_ok-put_bound_words.ensures.puts
    c.put_bound_words-2.ensures.puts
