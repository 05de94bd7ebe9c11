use Rattle.std.proofs.Common.{◌≡◌, ◌++◌, map, take}
use Rattle.unroll.specs.Cycle.{row_behind}
use Rattle.unroll.specs.Step.Kept.{kept_rows}
use Rattle.unroll.proofs.asked.keep_rows.Given as goal

abbrev pub invariant-loop-row : goal.invariant-loop-row
invariant-loop-row l = l.rows.items ≡ l.initial.rows.items ++ kept_rows l.cycles (map (row_behind l.first) (take l.row-index l.more))
