use Rattle.std.proofs.Common.{◌≡◌, ◌++◌, take}
use Rattle.lint.specs.Leads.{sheet_crossings}
use Rattle.lint.specs.Lists.{each_from}
use Rattle.lint.proofs.crossings.push_sheets.Given as goal

abbrev pub invariant-loop-part : goal.invariant-loop-part
invariant-loop-part l = l.crossings.items ≡ l.initial.crossings.items ++ each_from (sheet_crossings l.design.sheets) 0 (take l.part l.design.sheets)
