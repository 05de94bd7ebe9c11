use Rattle.std.proofs.lemmas.Result.{err_from_is_err_and}
use Rattle.itv_base.proofs.Written.{cut_more, puts_then}
use Rattle.job_self.proofs.write.put_summary.Goals as goal

pub returns-in_err-put_numbers : goal.returns-in_err-put_numbers
returns-in_err-put_numbers g c =
    let p = err_from_is_err_and c.from_residual.result c.from_residual.ensures.1 in
    rw p.1 (cut_more _ _ _ _ c.in_err-put_numbers.ensures)

pub returns : goal.returns
returns g c = puts_then _ _ _ _ _ _ c.in_ok-put_numbers.ensures (rw (← c.end_word.ensures) c.put_line.ensures)
