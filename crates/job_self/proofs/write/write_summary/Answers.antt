use Rattle.std.proofs.lemmas.Result.{err_from_is_err_and}
use Rattle.job_self.proofs.Summing.{summary_cut}
use Rattle.job_self.proofs.write.write_summary.Goals as goal

pub returns-in_err-put_summary : goal.returns-in_err-put_summary
returns-in_err-put_summary g c =
    let p = err_from_is_err_and c.from_residual-in_err-put_summary.result c.from_residual-in_err-put_summary.ensures.1 in
    record { works = rw (p.1, p.2) (summary_cut _ _ _ _ _ _ c.in_ok-summary.ensures c.in_err-put_summary.ensures) }
