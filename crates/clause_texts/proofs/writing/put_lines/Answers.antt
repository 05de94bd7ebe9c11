use Rattle.std.proofs.Common.{◌∙◌}
use Rattle.std.proofs.lemmas.Result.{err_from_is_err_and}
use Rattle.itv_base.proofs.Written.{left_after, left_cut}
use Rattle.clause_texts.proofs.Putting.{batch_first}
use Rattle.clause_texts.proofs.writing.put_lines.Goals as goal

pub returns-in_err-put_batch : goal.returns-in_err-put_batch
returns-in_err-put_batch g c =
    let p = err_from_is_err_and c.from_residual.result c.from_residual.ensures.1 in
    rw p.1 (left_cut _ _ _ _ _ _ _ c.loop-batch.invariant.1 (batch_first _ _ _ c.in-Some.ensures.steps.1.0) c.in_err-put_batch.ensures)

pub loop-batch-preserved : goal.loop-batch-preserved
loop-batch-preserved g c = (
  rw c.in-Some.ensures.steps.0 c.loop-batch.invariant.0,
  left_after _ _ _ _ _ _ _ c.loop-batch.invariant.1 (batch_first _ _ _ c.in-Some.ensures.steps.1.0) c.in_ok-put_batch.ensures,
)
