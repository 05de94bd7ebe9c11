use Rattle.std.proofs.Common.{◌≡◌, ◌*◌}
use Rattle.unroll.specs.Cycles.{constraints_of}
use Rattle.unroll.proofs.network.network_of.Given as goal

abbrev pub invariant-loop-cycle : goal.invariant-loop-cycle
invariant-loop-cycle l = l.network ≡ record { events = l.cycles * l.marks; constraints = constraints_of l.marks l.rules l.cycle }
