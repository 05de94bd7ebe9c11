use Rattle.std.proofs.Common.{◌≡◌, neg_ℤ}
use Rattle.event_graph.proofs.MovingOn.{shifted_front}
use Rattle.event_graph.proofs.times.move_all.Given as goal

-- the first times are moved
abbrev pub invariant-loop-event : goal.invariant-loop-event
invariant-loop-event l = l.times ≡ shifted_front l.event l.fn.times (neg_ℤ l.at)
