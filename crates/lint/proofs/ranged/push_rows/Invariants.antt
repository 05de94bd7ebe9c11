use Rattle.std.proofs.Common.{◌≡◌, ◌++◌, take}
use Rattle.std.specs.List.{flat_map}
use Rattle.lint.specs.Units.{row_ranged}
use Rattle.lint.proofs.ranged.push_rows.Given as goal

abbrev pub invariant-loop-row : goal.invariant-loop-row
invariant-loop-row l = l.ranges.items ≡ l.initial.ranges.items ++ flat_map (row_ranged l.part) (take l.row-index l.rows)
