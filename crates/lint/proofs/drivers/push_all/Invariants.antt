use Rattle.std.proofs.Common.{◌≡◌, [], ◌++◌, take}
use Rattle.lint.specs.Lists.{each_behind}
use Rattle.lint.specs.Step.{AreFirstTwo, lead_drivers}
use Rattle.lint.proofs.drivers.push_all.Given as goal

abbrev pub invariant-loop-join : goal.invariant-loop-join
invariant-loop-join l = (l.warnings.items ≡ l.initial.warnings.items ++ each_behind lead_drivers [] (take l.join-index l.joins)) × AreFirstTwo l.tables (take l.join-index l.joins)
