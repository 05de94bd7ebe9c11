use Rattle.std.proofs.Common.{◌≡◌, ◌++◌, take}
use Rattle.lint.specs.Lists.{each_from}
use Rattle.lint.specs.Units.{net_ranged}
use Rattle.lint.proofs.ranged.push_nets.Given as goal

abbrev pub invariant-loop-n : goal.invariant-loop-n
invariant-loop-n l = l.ranges.items ≡ l.initial.ranges.items ++ each_from net_ranged 0 (take l.n l.nets)
