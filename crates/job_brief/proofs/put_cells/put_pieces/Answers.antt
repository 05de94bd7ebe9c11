use Rattle.std.proofs.lemmas.Result.{err_from_is_err_and}
use Rattle.itv_base.proofs.Written.{left_after, left_cut}
use Rattle.job_brief.proofs.Cells.{doubled_more}
use Rattle.job_brief.proofs.put_cells.put_pieces.Goals as goal

pub returns-in_err-put_doubled : goal.returns-in_err-put_doubled
returns-in_err-put_doubled g c =
    let p = err_from_is_err_and c.from_residual.result c.from_residual.ensures.1 in
    rw p.1 (left_cut _ _ _ _ _ _ _ c.loop-piece.invariant (doubled_more _ _ _ c.loop-piece-test.true) c.in_err-put_doubled.ensures)

pub loop-piece-preserved : goal.loop-piece-preserved
loop-piece-preserved g c =
    left_after _ _ _ _ _ _ _ c.loop-piece.invariant (doubled_more _ _ _ c.loop-piece-test.true) c.in_ok-put_doubled.ensures
