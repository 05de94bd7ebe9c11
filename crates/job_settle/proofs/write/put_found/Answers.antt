use Rattle.std.proofs.Common.{ap, ◌∙◌}
use Rattle.job_base.specs.Ending.{answer_of}
use Rattle.job_settle.specs.Text.{ending_of, settle_text}
use Rattle.job_settle.proofs.Whole.{answers_settle, begins_settle}
use Rattle.job_settle.proofs.write.put_found.Goals as goal

pub returns-in_err-put_text-clause-begins : goal.returns-in_err-put_text-clause-begins
returns-in_err-put_text-clause-begins g c turns within =
    begins_settle c.args.drawn.now turns c.args.cert c.args.found.now.finding c.args.found.now.rows.items c.requires.finding c.requires.rows within c.from_residual.result _ _ c.in_err-put_text.ensures.puts

pub returns-clause-answers : goal.returns-clause-answers
returns-clause-answers g c turns within = (
  settle_text c.args.drawn.now c.args.cert c.args.found.now.finding c.args.found.now.rows.items,
  answers_settle c.args.drawn.now turns c.args.cert c.args.found.now.finding c.args.found.now.rows.items c.requires.finding c.requires.rows within c.answer_of.result
      (c.answer_of.ensures ∙ ap answer_of (c.ending_of-word.ensures.word ∙ ap (ending_of c.args.drawn.now.rows c.args.found.now.finding) c.deref.ensures.value)),
  c.in_ok-put_text.ensures.puts,
)
