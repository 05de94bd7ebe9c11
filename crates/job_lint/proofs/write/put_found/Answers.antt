use Rattle.job_lint.specs.Text.{lint_text}
use Rattle.job_lint.proofs.Whole.{answered_by, answers_lint, begins_lint}
use Rattle.job_lint.proofs.write.put_found.Goals as goal

pub returns-in_err-put_text-clause-begins : goal.returns-in_err-put_text-clause-begins
returns-in_err-put_text-clause-begins g c = λ budget is.
    begins_lint c.args.plan.now c.args.design.now c.args.drawn.now budget c.args.lines.now is c.from_residual.result _ _ c.in_err-put_text.ensures.puts

pub returns-clause-answers : goal.returns-clause-answers
returns-clause-answers g c = λ budget is. (
  lint_text c.args.plan.now c.args.design.now c.args.drawn.now c.args.lines.now,
  answers_lint c.args.plan.now c.args.design.now c.args.drawn.now budget c.args.lines.now is c.answer_by.result
      (answered_by c.args.plan.now c.args.design.now c.args.drawn.now c.args.lines.now c.answer_by.result c.is_clean-clean.result c.answer_by.ensures c.is_clean-clean.ensures.clean),
  c.in_ok-put_text.ensures.puts,
)
