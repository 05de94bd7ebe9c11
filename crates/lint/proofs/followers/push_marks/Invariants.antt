use Rattle.std.proofs.Common.{◌≡◌, ◌++◌, take}
use Rattle.lint.specs.Lists.{each_from}
use Rattle.lint.specs.Step.{place_clocked}
use Rattle.lint.proofs.followers.push_marks.Given as goal

abbrev pub invariant-loop-k : goal.invariant-loop-k
invariant-loop-k l = l.warnings.items ≡ l.initial.warnings.items ++ each_from (place_clocked l.periods l.clocks l.crossings l.part) 0 (take l.k l.marks)
