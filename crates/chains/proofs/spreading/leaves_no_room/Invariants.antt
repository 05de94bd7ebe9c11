use Rattle.std.proofs.Common.{◌<◌, ◌≤ℤ◌, ℕ, IsSomeAnd}
use Rattle.event_graph.specs.Edges.{edge}
use Rattle.event_graph.specs.Times.{separation}
use Rattle.chains.proofs.spreading.leaves_no_room.Given as goal

-- the causes so far leave no room
abbrev pub invariant-loop-cause : goal.invariant-loop-cause
invariant-loop-cause l = (k : ℕ) → k < l.cause → IsSomeAnd (edge l.net (record l.name { cause = k })) (λ e. e.weight ≤ℤ separation l.times e.from e.to)
