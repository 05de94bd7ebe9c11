use Rattle.std.proofs.Common.{◌≡◌, take}
use Rattle.right_report.specs.RowTally.{kinds_of}
use Rattle.job_whatif.proofs.asked.kinds_of.Given as goal

-- the kinds of the rows so far
abbrev pub invariant-loop-k : goal.invariant-loop-k
invariant-loop-k l = l.kinds.items ≡ kinds_of (take l.k l.rows)
