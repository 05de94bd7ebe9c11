use Rattle.std.proofs.Common.{◌≡◌, ◌*◌, drop}
use Rattle.right_report.specs.Right.ReportState.{tally_of}
use Rattle.right_report.specs.RowTally.{with_rows}
use Rattle.job_whatif.specs.Text.{bounds_of}
use Rattle.job_whatif.proofs.ending.tally_rows.Given as goal

-- the tally of the rows so far, with the rows that are left, is the tally of all rows
abbrev pub invariant-loop-k : goal.invariant-loop-k
invariant-loop-k l = with_rows l.tally (drop l.k l.kinds) (bounds_of (drop (2 * l.k) l.answers)) ≡ with_rows (tally_of l.fn.word) l.kinds (bounds_of l.answers)
