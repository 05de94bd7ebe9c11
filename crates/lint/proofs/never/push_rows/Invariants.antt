use Rattle.std.proofs.Common.{◌≡◌, ◌++◌, take}
use Rattle.std.specs.List.{flat_map}
use Rattle.lint.specs.Never.{row_never}
use Rattle.lint.proofs.never.push_rows.Given as goal

abbrev pub invariant-loop-row : goal.invariant-loop-row
invariant-loop-row l = l.places.items ≡ l.initial.places.items ++ flat_map (row_never l.last l.part) (take l.row-index l.rows)
