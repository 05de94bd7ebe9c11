use Rattle.std.proofs.lemmas.Result.{err_from_is_err_and}
use Rattle.itv_base.proofs.Written.{left_after, left_cut}
use Rattle.line_words.proofs.Printing.{spaced_by}
use Rattle.clause_texts.specs.Text.{step_word}
use Rattle.clause_texts.proofs.put.put_steps.Goals as goal

pub returns-in_err-put_step : goal.returns-in_err-put_step
returns-in_err-put_step g c =
    let p = err_from_is_err_and c.from_residual.result c.from_residual.ensures.1 in
    rw p.1 (left_cut _ _ _ _ _ _ _ c.loop-step.invariant (spaced_by step_word _ _ _ c.loop-step-test.true) c.in_err-put_step.ensures)

pub loop-step-preserved : goal.loop-step-preserved
loop-step-preserved g c = left_after _ _ _ _ _ _ _ c.loop-step.invariant (spaced_by step_word _ _ _ c.loop-step-test.true) c.in_ok-put_step.ensures
