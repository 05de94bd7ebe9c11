use Rattle.std.proofs.Common.{◌≡◌, ◌++◌, take}
use Rattle.lint.specs.Lists.{each_from}
use Rattle.lint.specs.Step.{sheet_caps}
use Rattle.lint.proofs.caps.push_sheets.Given as goal

abbrev pub invariant-loop-part : goal.invariant-loop-part
invariant-loop-part l = l.caps.items ≡ l.initial.caps.items ++ each_from sheet_caps 0 (take l.part l.design.sheets)
