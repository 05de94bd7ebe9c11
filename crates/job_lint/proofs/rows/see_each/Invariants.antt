use Rattle.job_lint.proofs.Searching.{AreSeenSoFar}
use Rattle.job_lint.proofs.rows.see_each.Given as goal

-- the rows so far
abbrev pub invariant-loop-row : goal.invariant-loop-row
invariant-loop-row l = AreSeenSoFar l.drawn l.initial.search l.search l.row-index l.row-items l.found.items
