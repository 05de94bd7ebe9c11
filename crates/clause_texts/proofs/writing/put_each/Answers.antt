use Rattle.std.proofs.lemmas.Result.{err_from_is_err_and}
use Rattle.itv_base.proofs.Written.{left_after, left_cut}
use Rattle.clause_texts.proofs.Putting.{lines_more}
use Rattle.clause_texts.proofs.writing.put_each.Goals as goal

pub returns-in_err-put_line : goal.returns-in_err-put_line
returns-in_err-put_line g c =
    let p = err_from_is_err_and c.from_residual.result c.from_residual.ensures.1 in
    rw p.1 (left_cut _ _ _ _ _ _ _ c.loop-line.invariant (lines_more _ _ _ _ c.loop-line-test.true c.line-item.is) c.in_err-put_line.ensures)

pub loop-line-preserved : goal.loop-line-preserved
loop-line-preserved g c = left_after _ _ _ _ _ _ _ c.loop-line.invariant (lines_more _ _ _ _ c.loop-line-test.true c.line-item.is) c.in_ok-put_line.ensures
