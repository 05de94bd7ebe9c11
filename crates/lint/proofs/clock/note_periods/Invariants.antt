use Rattle.std.proofs.Common.{take}
use Rattle.lint.specs.Step.{AreFirst, is_period_into}
use Rattle.lint.proofs.clock.note_periods.Given as goal

abbrev pub invariant-loop-lead : goal.invariant-loop-lead
invariant-loop-lead l = AreFirst is_period_into l.periods (take l.lead-index l.leads)
