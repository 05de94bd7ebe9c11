use Rattle.std.proofs.Common.{take}
use Rattle.job_measure.proofs.Counting.{IsTallyOf}
use Rattle.job_measure.proofs.tally.tally_of.Given as goal

-- what the runs so far show
abbrev pub invariant-loop-run : goal.invariant-loop-run
invariant-loop-run l = IsTallyOf l.within l.rules (take l.run-index l.runs) l.run-index l.tally
