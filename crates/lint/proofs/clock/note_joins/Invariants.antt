use Rattle.std.proofs.Common.{take}
use Rattle.lint.specs.Periods.{is_join_into}
use Rattle.lint.specs.Step.{AreFirst}
use Rattle.lint.proofs.clock.note_joins.Given as goal

abbrev pub invariant-loop-lead : goal.invariant-loop-lead
invariant-loop-lead l = AreFirst is_join_into l.joins (take l.lead-index l.leads)
