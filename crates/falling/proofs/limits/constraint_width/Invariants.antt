use Rattle.std.proofs.Common.{◌≡◌, ◌≤◌, Some, slice_get, take}
use Rattle.event_graph.specs.Limits.{weight_limit}
use Rattle.event_graph.specs.Network.{Constraint}
use Rattle.falling.specs.Cap.{widest_of_causes}
use Rattle.falling.proofs.limits.constraint_width.Given as goal

-- the widest end of the causes so far
abbrev pub invariant-loop-cause : goal.invariant-loop-cause
invariant-loop-cause l = record {
  width : (k : Constraint) → slice_get l.net.constraints l.number ≡ Some k → l.width ≡ widest_of_causes (take l.cause k.causes);
  most : l.width ≤ weight_limit;
}
