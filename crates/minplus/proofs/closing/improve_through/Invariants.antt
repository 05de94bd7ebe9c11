use Rattle.minplus.proofs.RowByRow.{IsHalfway}
use Rattle.minplus.proofs.closing.improve_through.Given as goal

abbrev pub invariant-loop-k : goal.invariant-loop-k
invariant-loop-k l = IsHalfway l.event l.k l.fn.rows l.rows l.through
