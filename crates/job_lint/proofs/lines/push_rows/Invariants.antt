use Rattle.job_lint.proofs.Lining.{AreLinesSoFar}
use Rattle.job_lint.proofs.lines.push_rows.Given as goal

-- the lines of the first rows
abbrev pub invariant-loop-number : goal.invariant-loop-number
invariant-loop-number l = AreLinesSoFar l.drawn l.number l.rows l.found l.initial.lines.items l.lines.items
