use Rattle.std.proofs.Common.{◌≡◌, ◌++◌, take}
use Rattle.std.specs.List.{flat_map}
use Rattle.lint.specs.Units.{source_ranged}
use Rattle.lint.proofs.ranged.push_causes.Given as goal

abbrev pub invariant-loop-cause : goal.invariant-loop-cause
invariant-loop-cause l = l.ranges.items ≡ l.initial.ranges.items ++ flat_map (source_ranged l.part) (take l.cause-index l.causes)
