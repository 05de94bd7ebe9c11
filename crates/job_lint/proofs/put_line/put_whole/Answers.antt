use Rattle.std.proofs.lemmas.Result.{err_from_is_err_and}
use Rattle.line_words.proofs.Printing.{line_cut, line_puts, word_cut}
use Rattle.job_lint.specs.Text.{line_words}
use Rattle.job_lint.proofs.put_line.put_whole.Goals as goal

pub returns-in_err-put : goal.returns-in_err-put
returns-in_err-put g c =
    let p = err_from_is_err_and c.from_residual.result c.from_residual.ensures.1 in
    record { puts = rw p.1 (word_cut _ _ _ (line_words c.args.plan.now c.args.design.now c.args.drawn.now c.args.line.now) c.in_err-put.ensures.puts) }

pub returns-in_err-put_line_words : goal.returns-in_err-put_line_words
returns-in_err-put_line_words g c =
    let p = err_from_is_err_and c.from_residual-in_err-put_line_words.result c.from_residual-in_err-put_line_words.ensures.1 in
    record { puts = rw p.1 (line_cut _ _ _ _ (line_words c.args.plan.now c.args.design.now c.args.drawn.now c.args.line.now) c.in_ok-put.ensures.puts c.in_err-put_line_words.ensures.puts) }

pub returns : goal.returns
returns g c = record {
  puts = line_puts _ _ _ _ _ (line_words c.args.plan.now c.args.design.now c.args.drawn.now c.args.line.now) c.put-2.result c.in_ok-put.ensures.puts c.in_ok-put_line_words.ensures.puts c.put-2.ensures.puts;
}
