-- When a bound of the separation of a pair is right.
use Rattle.std.specs.Prelude.{◌≡◌, ℤ, neg_ℤ, List, IfSome, option_map}
use Rattle.itv_base.specs.declared.names.EventId.{EventId}
use Rattle.event_graph.specs.Times.{IsTime, separation}
use Rattle.event_graph.specs.Network.{Net}
use Rattle.event_graph.specs.Satisfying.{Satisfies}
use Rattle.event_graph.specs.Bounds.{IsGreatest, IsLeast, IsUnbounded}
use Rattle.event_graph.specs.RootBound.{IsRootBound}
use Rattle.requirements.specs.declared.bound.Bound.{Bound}
use Rattle.requirements.specs.declared.bound.Bound.TheVariants.{Closed, Unbounded, Within}

-- some satisfying times have this separation
abbrev pub IsAttained : Net → EventId → EventId → ℤ → Type 0
IsAttained net from to value = (times : List ℤ) × Satisfies times net × (separation times from to ≡ value)

-- The greatest separation of a pair is this number, or is unbounded, or lies between the attained separation and the root bound.
abbrev pub IsGreatestBound : Net → EventId → EventId → Bound → Type 0
IsGreatestBound net from to (Closed value) = IsGreatest net from to value
IsGreatestBound net from to Unbounded = IsUnbounded net from to
IsGreatestBound net from to (Within limit attained) = IsRootBound net from to limit × IfSome attained (IsAttained net from to)

-- The least separation of a pair, in the same way. The reversed pair has minus the separations of the pair, so its root bound gives the limit.
abbrev pub IsLeastBound : Net → EventId → EventId → Bound → Type 0
IsLeastBound net from to (Closed value) = IsLeast net from to value
IsLeastBound net from to Unbounded = IsUnbounded net to from
IsLeastBound net from to (Within limit attained) = IsRootBound net to from (option_map neg_ℤ limit) × IfSome attained (IsAttained net from to)

-- the bound with its numbers negated
abbrev pub reversed : Bound → Bound
reversed (Closed value) = Closed (neg_ℤ value)
reversed Unbounded = Unbounded
reversed (Within limit attained) = Within (option_map neg_ℤ limit) (option_map neg_ℤ attained)

-- each number of the bound is below 2^61 in absolute value
abbrev pub HasTimes : Bound → Type 0
HasTimes (Closed value) = IsTime value
HasTimes Unbounded = Unit {0}
HasTimes (Within limit attained) = IfSome limit IsTime × IfSome attained IsTime
