use Rattle.std.proofs.Common.{sym, subst, ◌∙◌}
use Rattle.job_settle.specs.Answers.{ArePrintedTimes, first_event}
use Rattle.job_confirm.proofs.Lines.{times_stand}
use Rattle.job_confirm.proofs.Values.{long_times}
use Rattle.job_confirm.proofs.Whole.{want_on}
use Rattle.job_confirm.proofs.finding.consistent_next.Goals as goal

pub returns-in_err-times-clause-read : goal.returns-in_err-times-clause-read
returns-in_err-times-clause-read c shown more printed stands =
    want_on _ c.from_residual.result _ c.from_residual.ensures.1
    (c.in_err-times.ensures.read shown.items more (times_stand _ shown.items more stands) (long_times shown.items printed.printed))

pub returns-then-not-are_first-clause-read : goal.returns-then-not-are_first-clause-read
returns-then-not-are_first-clause-read c shown more printed stands =
    let same = c.in_ok-times.ensures.read shown.items more (times_stand _ shown.items more stands) (long_times shown.items printed.printed) in
    absurd (cc (c.if-not-are_first.ensures.first.1 (subst (ArePrintedTimes c.args.net.now first_event) (sym (c.deref.ensures.value ∙ same)) printed)))

pub returns-clause-read : goal.returns-clause-read
returns-clause-read c shown more printed stands =
    sym (c.in_ok-times.ensures.read shown.items more (times_stand _ shown.items more stands) (long_times shown.items printed.printed))
