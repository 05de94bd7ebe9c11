use Rattle.std.proofs.Common.{◌≡◌, take}
use Rattle.job_measure.specs.Lines.{under}
use Rattle.job_measure.proofs.headed.under.Given as goal

abbrev pub invariant-loop-one : goal.invariant-loop-one
invariant-loop-one l = l.rules.items ≡ under l.heading (take l.one-index l.all)
