use Rattle.std.proofs.Common.{◌≡◌, ◌++◌, take}
use Rattle.lint.specs.Lists.{each_from}
use Rattle.lint.specs.Units.{sheet_ranged}
use Rattle.lint.proofs.ranged.push_sheets.Given as goal

abbrev pub invariant-loop-part : goal.invariant-loop-part
invariant-loop-part l = l.ranges.items ≡ l.initial.ranges.items ++ each_from sheet_ranged 0 (take l.part l.design.sheets)
