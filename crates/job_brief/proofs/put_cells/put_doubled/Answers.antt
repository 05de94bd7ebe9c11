use Rattle.std.proofs.lemmas.Result.{err_from_is_err_and}
use Rattle.itv_base.proofs.Written.{left_after, left_cut}
use Rattle.job_brief.proofs.Cells.{bytes_more}
use Rattle.job_brief.proofs.put_cells.put_doubled.Goals as goal

pub returns-in_err-put_byte : goal.returns-in_err-put_byte
returns-in_err-put_byte g c =
    let p = err_from_is_err_and c.from_residual.result c.from_residual.ensures.1 in
    rw p.1 (left_cut _ _ _ _ _ _ _ c.loop-byte.invariant (bytes_more _ _ _ c.loop-byte-test.true) c.in_err-put_byte.ensures)

pub loop-byte-preserved : goal.loop-byte-preserved
loop-byte-preserved g c =
    left_after _ _ _ _ _ _ _ c.loop-byte.invariant (bytes_more _ _ _ c.loop-byte-test.true) c.in_ok-put_byte.ensures
