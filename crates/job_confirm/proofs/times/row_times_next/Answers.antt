use Rattle.std.proofs.Common.{sym, subst, ◌∙◌}
use Rattle.job_settle.specs.Answers.{ArePrintedTimes}
use Rattle.job_confirm.proofs.Lines.{times_stand}
use Rattle.job_confirm.proofs.Values.{long_times}
use Rattle.job_confirm.proofs.Whole.{want_on}
use Rattle.job_confirm.proofs.times.row_times_next.Goals as goal

pub returns-in_err-times-clause-read : goal.returns-in_err-times-clause-read
returns-in_err-times-clause-read c times more printed stands =
    want_on _ c.from_residual.result _ c.from_residual.ensures.1
    (c.in_err-times.ensures.read times more (times_stand _ times more stands) (long_times times printed.printed))

pub returns-then-not-are_row_times-clause-read : goal.returns-then-not-are_row_times-clause-read
returns-then-not-are_row_times-clause-read c times more printed stands =
    let same = c.in_ok-times.ensures.read times more (times_stand _ times more stands) (long_times times printed.printed) in
    absurd (cc (c.if-not-are_row_times.ensures.times.1 (subst (ArePrintedTimes c.args.net.now c.args.row.now.from) (sym (c.deref.ensures.value ∙ same)) printed)))

pub returns-clause-read : goal.returns-clause-read
returns-clause-read c times more printed stands =
    c.in_ok-times.ensures.read times more (times_stand _ times more stands) (long_times times printed.printed)
