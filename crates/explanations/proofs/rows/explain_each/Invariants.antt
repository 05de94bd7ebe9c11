use Rattle.explanations.proofs.Lanes.{AreSoFar}
use Rattle.explanations.proofs.rows.explain_each.Given as goal

-- the rows so far
abbrev pub invariant-loop-row : goal.invariant-loop-row
invariant-loop-row l = AreSoFar l.drawn l.initial.desk l.row-index l.row-items l.found.items l.desk
