use Rattle.std.proofs.Common.{◌≡◌, ◌++◌, drop}
use Rattle.job_measure.specs.Lines.{lines_of_rows}
use Rattle.job_measure.proofs.line.add_rows.Given as goal

-- the lines so far, before those that are left
abbrev pub invariant-loop-k : goal.invariant-loop-k
invariant-loop-k l = l.lines.items ++ lines_of_rows l.drawn l.within l.runs l.k (drop l.k l.rows) ≡ l.fn.lines.items ++ lines_of_rows l.drawn l.within l.runs 0 l.rows
