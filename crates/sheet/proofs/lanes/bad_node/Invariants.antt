use Rattle.std.proofs.Common.{◌≡◌, drop}
use Rattle.std.specs.List.{position, position_from}
use Rattle.sheet.specs.Lanes.{has_bad_node}
use Rattle.sheet.proofs.lanes.bad_node.Given as goal

abbrev pub invariant-loop-k : goal.invariant-loop-k
invariant-loop-k l = position_from has_bad_node l.k (drop l.k l.lanes) ≡ position has_bad_node l.lanes
