use Rattle.std.proofs.Common.{◌≡◌, drop, map}
use Rattle.requirements.specs.declared.consistency.Consistency.TheVariants.{Consistent}
use Rattle.right_report.specs.Right.ReportState.{tally_of}
use Rattle.right_report.specs.RowTally.{kinds_of, with_rows}
use Rattle.job_settle.specs.Answers.{both_of}
use Rattle.job_settle.proofs.ending.tally_rows.Given as goal

-- the tally of the first rows, with the rows that are left, is the tally of all rows
abbrev pub invariant-loop-number : goal.invariant-loop-number
invariant-loop-number l =
    with_rows l.tally (kinds_of (drop l.number l.drawn.rows)) (map both_of (drop l.number l.found)) ≡ with_rows (tally_of Consistent) (kinds_of l.drawn.rows) (map both_of l.found)
