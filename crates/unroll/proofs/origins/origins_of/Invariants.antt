use Rattle.std.proofs.Common.{◌≡◌}
use Rattle.unroll.specs.Cycles.{origins_of}
use Rattle.unroll.proofs.origins.origins_of.Given as goal

abbrev pub invariant-loop-cycle : goal.invariant-loop-cycle
invariant-loop-cycle l = l.origins ≡ origins_of l.rules l.cycle
