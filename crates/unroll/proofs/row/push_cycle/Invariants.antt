use Rattle.std.proofs.Common.{◌≡◌, ◌++◌, take}
use Rattle.std.specs.List.{filter_map}
use Rattle.unroll.specs.Cycles.{row_in}
use Rattle.unroll.proofs.row.push_cycle.Given as goal

abbrev pub invariant-loop-row : goal.invariant-loop-row
invariant-loop-row l = l.rows ≡ l.initial.rows ++ filter_map (row_in l.marks l.cycle) (take l.row-index l.asked)
