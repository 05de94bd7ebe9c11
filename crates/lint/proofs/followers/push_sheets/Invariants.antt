use Rattle.std.proofs.Common.{◌≡◌, ◌++◌, take}
use Rattle.lint.specs.Lists.{each_from}
use Rattle.lint.specs.Step.{sheet_clocked}
use Rattle.lint.proofs.followers.push_sheets.Given as goal

abbrev pub invariant-loop-part : goal.invariant-loop-part
invariant-loop-part l = l.warnings.items ≡ l.initial.warnings.items ++ each_from (sheet_clocked l.periods l.clocks l.crossings) 0 (take l.part l.design.sheets)
