use Rattle.std.proofs.Common.{◌≡◌, ◌-◌, length}
use Rattle.itv_base.specs.declared.names.EventId.{EventId}
use Rattle.chains.specs.Step.Spreading.{IsSpread}
use Rattle.chains.proofs.spreading.spread_back.Given as goal

-- no event is lost, and new events are reached by edges found
abbrev pub invariant-loop-from : goal.invariant-loop-from
invariant-loop-from l = record {
  events : length l.spread.reached ≡ length l.fn.spread.reached;
  spreads : (to : EventId) → IsSpread l.net l.times to l.fn.spread → IsSpread l.net l.times to l.spread;
}

abbrev pub decreases-loop-from : goal.decreases-loop-from
decreases-loop-from l = length l.spread.reached - length l.spread.found
