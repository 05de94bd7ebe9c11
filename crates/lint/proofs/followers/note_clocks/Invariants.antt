use Rattle.std.proofs.Common.{take}
use Rattle.lint.specs.Periods.{follows_by}
use Rattle.lint.specs.Step.{AreFirst}
use Rattle.lint.proofs.followers.note_clocks.Given as goal

abbrev pub invariant-loop-lead : goal.invariant-loop-lead
invariant-loop-lead l = AreFirst (follows_by l.leads) l.clocks (take l.lead-index l.leads)
