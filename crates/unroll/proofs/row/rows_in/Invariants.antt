use Rattle.std.proofs.Common.{◌≡◌}
use Rattle.unroll.specs.Cycles.{rows_in}
use Rattle.unroll.proofs.row.rows_in.Given as goal

abbrev pub invariant-loop-cycle : goal.invariant-loop-cycle
invariant-loop-cycle l = l.rows ≡ rows_in l.marks l.asked l.cycle
