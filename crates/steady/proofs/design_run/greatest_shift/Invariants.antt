use Rattle.steady.proofs.Reaching.{IsShiftSoFar}
use Rattle.steady.proofs.design_run.greatest_shift.Given as goal

abbrev pub invariant-loop-row : goal.invariant-loop-row
invariant-loop-row l = IsShiftSoFar l.rows l.row-index l.most
