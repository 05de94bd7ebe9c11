use Rattle.std.proofs.Common.{◌≡◌, ◌++◌, take}
use Rattle.lint.specs.Lists.{each_from}
use Rattle.lint.specs.Step.{edge_checked}
use Rattle.lint.proofs.texts.push_edges.Given as goal

abbrev pub invariant-loop-n : goal.invariant-loop-n
invariant-loop-n l = l.warnings.items ≡ l.initial.warnings.items ++ each_from (edge_checked l.check l.version l.part) 0 (take l.n l.edges)
