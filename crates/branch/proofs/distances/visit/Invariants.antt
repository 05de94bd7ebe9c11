use Rattle.std.proofs.Common.{◌≤◌, IfSome, length}
use Rattle.branch.specs.Step.Looking.{IsTargetFound}
use Rattle.branch.proofs.distances.visit.Given as goal

abbrev pub invariant-loop-rule : goal.invariant-loop-rule
invariant-loop-rule l = record { count : l.reach.count ≤ length l.queue; least : IfSome l.reach.least (IsTargetFound l.graph.wanted l.graph.rules.now l.graph.cases.now.chosen) }

abbrev pub invariant-loop-source : goal.invariant-loop-source
invariant-loop-source l = record { count : l.reach.count ≤ length l.queue; least : IfSome l.reach.least (IsTargetFound l.graph.wanted l.graph.rules.now l.graph.cases.now.chosen) }
