use Rattle.std.proofs.Common.{◌≡◌, ◌++◌, take}
use Rattle.std.specs.List.{flat_map}
use Rattle.lint.specs.Units.{ranged_unit}
use Rattle.lint.proofs.units.push_among.Given as goal

abbrev pub invariant-loop-ranged : goal.invariant-loop-ranged
invariant-loop-ranged l = l.warnings.items ≡ l.initial.warnings.items ++ flat_map (ranged_unit l.sizes) (take l.ranged-index l.ranges)
