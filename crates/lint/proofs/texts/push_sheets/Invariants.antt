use Rattle.std.proofs.Common.{◌≡◌, ◌++◌, take}
use Rattle.lint.specs.Lists.{each_from}
use Rattle.lint.specs.Step.{sheet_checked}
use Rattle.lint.proofs.texts.push_sheets.Given as goal

abbrev pub invariant-loop-part : goal.invariant-loop-part
invariant-loop-part l = l.warnings.items ≡ l.initial.warnings.items ++ each_from (sheet_checked l.check l.version) 0 (take l.part l.design.sheets)
