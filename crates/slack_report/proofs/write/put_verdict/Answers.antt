use Rattle.std.proofs.lemmas.Result.{err_from_is_err_and}
use Rattle.line_words.proofs.Printing.{line_cut, line_puts, word_cut}
use Rattle.slack_report.specs.Text.{words_of}
use Rattle.slack_report.proofs.write.put_verdict.Goals as goal

pub returns-in_err-put : goal.returns-in_err-put
unfolding words_of
returns-in_err-put g c =
    let p = err_from_is_err_and c.from_residual.result c.from_residual.ensures.1 in
    rw p.1 (word_cut _ _ _ _ c.in_err-put.ensures.puts)

pub returns-in_err-put_verdict_words : goal.returns-in_err-put_verdict_words
unfolding words_of
returns-in_err-put_verdict_words g c =
    let p = err_from_is_err_and c.from_residual-in_err-put_verdict_words.result c.from_residual-in_err-put_verdict_words.ensures.1 in
    rw p.1 (line_cut _ _ _ _ _ c.in_ok-put.ensures.puts c.in_err-put_verdict_words.ensures.puts)

pub returns : goal.returns
unfolding words_of
returns g c = line_puts _ _ _ _ _ _ _ c.in_ok-put.ensures.puts c.in_ok-put_verdict_words.ensures.puts c.put-2.ensures.puts
