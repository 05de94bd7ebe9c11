use Rattle.steady.proofs.RowSteps.{AreRowsSoFar}
use Rattle.steady.proofs.rows.find_rows.Given as goal

abbrev pub invariant-loop-row : goal.invariant-loop-row
invariant-loop-row l = AreRowsSoFar l.run l.initial.extremes l.extremes l.steadying l.row-index l.row-items l.found.items
