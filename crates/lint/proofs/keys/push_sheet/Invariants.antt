use Rattle.std.proofs.Common.{◌≡◌, ◌++◌, take}
use Rattle.lint.specs.Lists.{each_from}
use Rattle.lint.specs.Texts.{sheet_key}
use Rattle.lint.proofs.keys.push_sheet.Given as goal

abbrev pub invariant-loop-key : goal.invariant-loop-key
invariant-loop-key l = l.warnings.items ≡ l.initial.warnings.items ++ each_from (sheet_key l.part) 0 (take l.key l.near)
