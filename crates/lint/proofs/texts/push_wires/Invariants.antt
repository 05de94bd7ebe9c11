use Rattle.std.proofs.Common.{◌≡◌, ◌++◌, take}
use Rattle.lint.specs.Lists.{each_from}
use Rattle.lint.specs.Step.{wire_checked}
use Rattle.lint.proofs.texts.push_wires.Given as goal

abbrev pub invariant-loop-n : goal.invariant-loop-n
invariant-loop-n l = l.warnings.items ≡ l.initial.warnings.items ++ each_from (wire_checked l.check) 0 (take l.n l.edges)
