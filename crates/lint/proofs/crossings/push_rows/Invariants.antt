use Rattle.std.proofs.Common.{◌≡◌, ◌++◌, take}
use Rattle.std.specs.List.{flat_map}
use Rattle.lint.specs.Leads.{row_crossings}
use Rattle.lint.proofs.crossings.push_rows.Given as goal

abbrev pub invariant-loop-row : goal.invariant-loop-row
invariant-loop-row l = l.crossings.items ≡ l.initial.crossings.items ++ flat_map (row_crossings l.design.sheets l.home) (take l.row-index l.rows)
