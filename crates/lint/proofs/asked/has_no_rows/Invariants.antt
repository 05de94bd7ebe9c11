use Rattle.std.proofs.Common.{◌≡◌, take}
use Rattle.lint.proofs.RowLists.{row_count}
use Rattle.lint.proofs.asked.has_no_rows.Given as goal

abbrev pub invariant-loop-part : goal.invariant-loop-part
invariant-loop-part l = row_count (take l.part l.design.sheets) ≡ 0
