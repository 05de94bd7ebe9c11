use Rattle.std.proofs.Common.{◌≡◌, ◌++◌, take}
use Rattle.std.specs.List.{filter_map}
use Rattle.unroll.specs.Cycles.{origins_in}
use Rattle.unroll.proofs.origins.push_cycle.Given as goal

abbrev pub invariant-loop-rule : goal.invariant-loop-rule
invariant-loop-rule l = l.origins ≡ l.initial.origins ++ filter_map (origins_in l.cycle) (take l.rule-index l.rules)
