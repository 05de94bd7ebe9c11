use Rattle.std.proofs.Common.{◌≡◌, take}
use Rattle.std.specs.List.{flat_map}
use Rattle.lint.specs.Units.{sizes_of}
use Rattle.lint.proofs.units.sizes_of.Given as goal

abbrev pub invariant-loop-ranged : goal.invariant-loop-ranged
invariant-loop-ranged l = l.sizes.items ≡ flat_map sizes_of (take l.ranged-index l.ranges)
