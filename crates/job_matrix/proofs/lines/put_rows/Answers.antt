use Rattle.std.proofs.Common.{arith}
use Rattle.std.proofs.lemmas.Result.{err_from_is_err_and}
use Rattle.itv_base.proofs.Written.{left_after, left_cut}
use Rattle.job_matrix.proofs.Putting.{rows_more}
use Rattle.job_matrix.proofs.lines.put_rows.Goals as goal

pub returns-in_err-write_row : goal.returns-in_err-write_row
returns-in_err-write_row g c =
    let p = err_from_is_err_and c.from_residual.result c.from_residual.ensures.1 in
    rw p.1 (left_cut _ _ _ _ _ _ _ c.loop-from.invariant (rows_more c.args.matrix.now c.loop-from.from (omega (arith, c.loop-from-test.true, c.requires.square.count))) c.in_err-write_row.ensures)

pub loop-from-preserved : goal.loop-from-preserved
loop-from-preserved g c =
    left_after _ _ _ _ _ _ _ c.loop-from.invariant (rows_more c.args.matrix.now c.loop-from.from (omega (arith, c.loop-from-test.true, c.requires.square.count))) c.in_ok-write_row.ensures
