-- The greatest and least separations of a pair of events, over whole lists of times.
use Rattle.std.specs.Prelude.{◌≡◌, ℕ, ℤ, ◌≤ℤ◌, ◌<ℤ◌, Bool, true, false, List, length, Some, slice_get}
use Rattle.itv_base.specs.declared.names.EventId.{EventId}
use Rattle.event_graph.specs.Network.{Net}
use Rattle.event_graph.specs.Satisfying.{Satisfies}
use Rattle.event_graph.specs.Times.{separation, raised}

-- the greatest separation of a pair among some times: it is attained, and no separation exceeds it
pub record IsGreatestAmong (Among : List ℤ → Type 0) (from to : EventId) (value : ℤ) : Type 0 where
  pub attained : (times : List ℤ) × Among times × (separation times from to ≡ value)
  pub most : (times : List ℤ) → Among times → separation times from to ≤ℤ value

-- for every number, some of the times have a greater separation of the pair
abbrev pub IsUnboundedAmong : (List ℤ → Type 0) → EventId → EventId → Type 0
IsUnboundedAmong Among from to = (value : ℤ) → (times : List ℤ) × Among times × (value <ℤ separation times from to)

-- the greatest separation of a pair among the times that satisfy a network
abbrev pub IsGreatest : Net → EventId → EventId → ℤ → Type 0
IsGreatest net = IsGreatestAmong (λ times. Satisfies times net)

-- the least separation of a pair among the times that satisfy a network: it is attained, and no separation is below it
pub record IsLeast (net : Net) (from to : EventId) (value : ℤ) : Type 0 where
  pub attained : (times : List ℤ) × Satisfies times net × (separation times from to ≡ value)
  pub least : (times : List ℤ) → Satisfies times net → value ≤ℤ separation times from to

-- for every number, some satisfying times have a greater separation of the pair
abbrev pub IsUnbounded : Net → EventId → EventId → Type 0
IsUnbounded net = IsUnboundedAmong (λ times. Satisfies times net)

-- no times satisfy a network
abbrev pub IsInconsistent : Net → Type 0
IsInconsistent net = (times : List ℤ) → Satisfies times net → ⊥

-- times and a set of events that show that a pair is unbounded. The set holds the to-event and not the from-event. The times satisfy the network
-- however far the events of the set are raised.
pub record IsRay (net : Net) (from to : EventId) (times : List ℤ) (set : List Bool) : Type 0 where
  pub count : length set ≡ net.events
  pub holds : slice_get set to.0 ≡ Some true
  pub lacks : slice_get set from.0 ≡ Some false
  pub satisfies : (by : ℕ) → Satisfies (raised set by times) net
