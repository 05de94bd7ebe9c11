-- What the always-edges of a network alone allow.
use Rattle.std.specs.Prelude.{◌≡◌, ℤ, List, length, Option, Some, None}
use Rattle.itv_base.specs.declared.names.EdgeName.{EdgeName}
use Rattle.itv_base.specs.declared.names.EventId.{EventId}
use Rattle.event_graph.specs.declared.edge.Edge.{Edge}
use Rattle.event_graph.specs.Bounds.{IsGreatestAmong, IsUnboundedAmong}
use Rattle.event_graph.specs.Edges.{IsAlways, Meets, edge}
use Rattle.event_graph.specs.Network.{Net}

-- there are as many times as events, and they meet each always-edge
pub record MeetsAlways (times : List ℤ) (net : Net) : Type 0 where
  pub count : length times ≡ net.events
  pub each : (name : EdgeName) (e : Edge) → IsAlways net name → edge net name ≡ Some e → Meets times e

-- the greatest separation of a pair among the times that meet the always-edges, or `None` if it is unbounded
abbrev pub IsRootBound : Net → EventId → EventId → Option ℤ → Type 0
IsRootBound net from to (Some value) = IsGreatestAmong (λ times. MeetsAlways times net) from to value
IsRootBound net from to None = IsUnboundedAmong (λ times. MeetsAlways times net) from to

-- no times meet the always-edges, so there is no root bound
abbrev pub HasNoRoot : Net → Type 0
HasNoRoot net = (times : List ℤ) → MeetsAlways times net → ⊥
