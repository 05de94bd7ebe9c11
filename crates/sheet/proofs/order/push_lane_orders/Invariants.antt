use Rattle.std.proofs.Common.{◌≡◌, ◌++◌, drop}
use Rattle.std.specs.List.{flat_map}
use Rattle.sheet.specs.Lanes.{numbered, lane_order, order_rules}
use Rattle.sheet.proofs.order.push_lane_orders.Given as goal

abbrev pub invariant-loop-k : goal.invariant-loop-k
invariant-loop-k l = l.rules.items ++ flat_map lane_order (drop l.k (numbered l.lanes)) ≡ l.fn.rules.items ++ order_rules l.lanes
