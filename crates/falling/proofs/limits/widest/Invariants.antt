use Rattle.std.proofs.Common.{◌≡◌, ◌≤◌, take}
use Rattle.event_graph.specs.Limits.{weight_limit}
use Rattle.falling.specs.Cap.{widest_of}
use Rattle.falling.proofs.limits.widest.Given as goal

-- the widest end of the constraints so far
abbrev pub invariant-loop-number : goal.invariant-loop-number
invariant-loop-number l = record {
  width : l.width ≡ widest_of (take l.number l.net.constraints);
  most : l.width ≤ weight_limit;
}
