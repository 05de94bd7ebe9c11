use Rattle.std.proofs.Common.{◌-◌, ◌≤◌, IfSome, length}
use Rattle.branch.specs.Step.Looking.{IsTargetFound}
use Rattle.branch.proofs.distances.first_wanted.Given as goal

abbrev pub invariant-loop-place : goal.invariant-loop-place
invariant-loop-place l = record { end : l.end ≤ length l.queue; count : l.reach.count ≤ length l.queue; least : IfSome l.reach.least (IsTargetFound l.graph.wanted l.graph.rules.now l.graph.cases.now.chosen) }

abbrev pub invariant-loop-head : goal.invariant-loop-head
invariant-loop-head l = record { count : l.reach.count ≤ length l.queue; least : IfSome l.reach.least (IsTargetFound l.graph.wanted l.graph.rules.now l.graph.cases.now.chosen) }

abbrev pub decreases-loop-head : goal.decreases-loop-head
decreases-loop-head l = length l.queue - l.head
