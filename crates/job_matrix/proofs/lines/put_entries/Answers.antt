use Rattle.std.proofs.Common.{arith}
use Rattle.std.proofs.lemmas.Result.{err_from_is_err_and}
use Rattle.itv_base.proofs.Written.{left_after, left_cut}
use Rattle.job_matrix.proofs.Putting.{entries_more}
use Rattle.job_matrix.proofs.lines.put_entries.Goals as goal

pub returns-in_err-put_entry : goal.returns-in_err-put_entry
returns-in_err-put_entry g c =
    let p = err_from_is_err_and c.from_residual.result c.from_residual.ensures.1 in
    rw p.1 (left_cut _ _ _ _ _ _ _ c.loop-to.invariant (entries_more c.args.matrix.now c.args.from c.loop-to.to (omega (arith, c.loop-to-test.true, c.requires.count))) c.in_err-put_entry.ensures)

pub loop-to-preserved : goal.loop-to-preserved
loop-to-preserved g c =
    left_after _ _ _ _ _ _ _ c.loop-to.invariant (entries_more c.args.matrix.now c.args.from c.loop-to.to (omega (arith, c.loop-to-test.true, c.requires.count))) c.in_ok-put_entry.ensures
