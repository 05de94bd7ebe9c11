use Rattle.std.proofs.Common.{◌∙◌, ap, sym, subst}
use Rattle.clap.specs.Values.{kind_of}
use Rattle.command_words.specs.Task.{KeepsLimits, answer_for, taken}
use Rattle.command_words.proofs.Limits.{taken_limits}
use Rattle.command_words.proofs.Saying.{as_read, by_error, by_matches, of_refusal}
use Rattle.command_words.proofs.read.read_words.Goals as goal

pub returns-in-Ok-clause-taken : goal.returns-in-Ok-clause-taken
returns-in-Ok-clause-taken c =
    c.answer.ensures ∙ ap answer_for c.task_of.ensures
    ∙ by_matches _ _ _ c.in_ok-command.ensures.command c.in-Ok.ensures.kinds c.in-Ok.ensures.matches
    ∙ ap taken (as_read _ ∙ c.as_slice.ensures.texts)

pub returns-in-Ok-clause-limits : goal.returns-in-Ok-clause-limits
returns-in-Ok-clause-limits c = subst KeepsLimits (sym (returns-in-Ok-clause-taken c)) (taken_limits c.args.words.now)

pub returns-in-Err-clause-taken : goal.returns-in-Err-clause-taken
returns-in-Err-clause-taken c =
    of_refusal _ (kind_of c.in-Err.error) (taken c.args.words.now) c.refusal.ensures
    (λ memory. by_error _ _ (kind_of c.in-Err.error) c.in_ok-command.ensures.command memory c.in-Err.ensures.kinds ∙ ap taken (as_read _ ∙ c.as_slice.ensures.texts))
