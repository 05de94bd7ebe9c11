use Rattle.std.proofs.Common.{◌≡◌, ◌++◌, take}
use Rattle.lint.specs.Lists.{each_from}
use Rattle.lint.specs.Never.{sheet_never}
use Rattle.lint.proofs.never.push_sheets.Given as goal

abbrev pub invariant-loop-part : goal.invariant-loop-part
invariant-loop-part l = l.places.items ≡ l.initial.places.items ++ each_from (sheet_never l.last) 0 (take l.part l.design.sheets)
