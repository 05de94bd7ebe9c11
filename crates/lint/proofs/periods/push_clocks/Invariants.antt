use Rattle.std.proofs.Common.{◌≡◌, [], ◌++◌, take}
use Rattle.lint.specs.Lists.{each_behind}
use Rattle.lint.specs.Periods.{clock_periods}
use Rattle.lint.proofs.periods.push_clocks.Given as goal

abbrev pub invariant-loop-n : goal.invariant-loop-n
invariant-loop-n l = l.warnings.items ≡ l.initial.warnings.items ++ each_behind clock_periods [] (take l.n l.clocks)
