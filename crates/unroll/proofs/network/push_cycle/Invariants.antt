use Rattle.std.proofs.Common.{◌≡◌, ◌++◌, take}
use Rattle.std.specs.List.{filter_map}
use Rattle.unroll.specs.Cycles.{constraint_in}
use Rattle.unroll.proofs.network.push_cycle.Given as goal

abbrev pub invariant-loop-rule : goal.invariant-loop-rule
invariant-loop-rule l =
    l.network ≡ record l.initial.network { constraints = l.initial.network.constraints ++ filter_map (constraint_in l.marks l.cycle) (take l.rule-index l.rules) }
