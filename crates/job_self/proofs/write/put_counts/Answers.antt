use Rattle.std.proofs.lemmas.Result.{err_from_is_err_and}
use Rattle.itv_base.proofs.Written.{left_after, left_cut}
use Rattle.job_self.proofs.Summing.{counts_more}
use Rattle.job_self.proofs.write.put_counts.Goals as goal

pub returns-in_err-put_count : goal.returns-in_err-put_count
returns-in_err-put_count g c =
    let p = err_from_is_err_and c.from_residual.result c.from_residual.ensures.1 in
    rw p.1 (left_cut _ _ _ _ _ _ _ c.loop-count.invariant (counts_more _ _ _ c.loop-count-test.true) c.in_err-put_count.ensures)

pub loop-count-preserved : goal.loop-count-preserved
loop-count-preserved g c = left_after _ _ _ _ _ _ _ c.loop-count.invariant (counts_more _ _ _ c.loop-count-test.true) c.in_ok-put_count.ensures
