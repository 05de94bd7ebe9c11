use Rattle.std.proofs.lemmas.Result.{err_from_is_err_and}
use Rattle.line_words.proofs.Printing.{line_cut, line_puts, word_cut}
use Rattle.clause_texts.proofs.writing.put_assume.Goals as goal

pub returns-in_err-put : goal.returns-in_err-put
returns-in_err-put g c =
    let p = err_from_is_err_and c.from_residual.result c.from_residual.ensures.1 in
    rw p.1 (word_cut _ _ _ _ c.in_err-put.ensures.puts)

pub returns-in_err-put_differences : goal.returns-in_err-put_differences
returns-in_err-put_differences g c =
    let p = err_from_is_err_and c.from_residual-in_err-put_differences.result c.from_residual-in_err-put_differences.ensures.1 in
    rw p.1 (line_cut _ _ _ _ _ c.in_ok-put.ensures.puts c.in_err-put_differences.ensures)

pub returns : goal.returns
returns g c = line_puts _ _ _ _ _ _ _ c.in_ok-put.ensures.puts c.in_ok-put_differences.ensures c.put-2.ensures.puts
