-- The edges of a graph: the always-edges of a network and the chosen edges. And what these edges allow.
use Rattle.std.specs.Prelude.{◌≡◌, ◌≤◌, ℤ, pos, ◌<ℤ◌, ◌⊎◌, List, [], ◌∷◌, ◌++◌, length, cond, All, Contains, Option, Some, None, is_some}
use Rattle.itv_base.specs.declared.names.EdgeName.{EdgeName}
use Rattle.itv_base.specs.declared.names.EventId.{EventId}
use Rattle.event_graph.specs.declared.edge.Edge.{Edge}
use Rattle.event_graph.specs.Bounds.{IsGreatestAmong, IsUnboundedAmong}
use Rattle.event_graph.specs.Edges.{IsAlways, Meets, edge}
use Rattle.event_graph.specs.Network.{Net}
use Rattle.event_graph.specs.Proof.{IsWalk, path_sum}

-- the name of an always-edge or of a chosen edge
abbrev pub IsCurrent : Net → List EdgeName → EdgeName → Type 0
IsCurrent net chosen name = IsAlways net name ⊎ Contains chosen name

-- one time for each event; the times meet each current edge
pub record MeetsCurrent (net : Net) (chosen : List EdgeName) (times : List ℤ) : Type 0 where
  pub count : length times ≡ net.events
  pub each : (name : EdgeName) (e : Edge) → IsCurrent net chosen name → edge net name ≡ Some e → Meets times e

-- no times meet the current edges
abbrev pub HasNoTimes : Net → List EdgeName → Type 0
HasNoTimes net chosen = (times : List ℤ) → MeetsCurrent net chosen times → ⊥

-- the greatest separation of a pair among the times that meet the current edges, or none where it is unbounded
abbrev pub IsUpper : Net → List EdgeName → EventId → EventId → Option ℤ → Type 0
IsUpper net chosen from to (Some value) = IsGreatestAmong (MeetsCurrent net chosen) from to value
IsUpper net chosen from to None = IsUnboundedAmong (MeetsCurrent net chosen) from to

-- a closed walk of current edges whose sum is negative, of at most as many edges as there are events
pub record IsLoop (net : Net) (chosen names : List EdgeName) : Type 0 where
  pub event : EventId
  pub walk : IsWalk net event names event
  pub current : All (IsCurrent net chosen) names
  pub negative : path_sum net names <ℤ pos 0
  pub count : length names ≤ net.events

-- a path of current edges with a sum, of at most as many edges as there are events
pub record IsPath (net : Net) (chosen : List EdgeName) (from to : EventId) (sum : ℤ) (names : List EdgeName) : Type 0 where
  pub walk : IsWalk net from names to
  pub current : All (IsCurrent net chosen) names
  pub total : path_sum net names ≡ sum
  pub count : length names ≤ net.events

-- the chosen edges with one more at the end, where its name has an edge
abbrev pub with_choice : Net → List EdgeName → EdgeName → List EdgeName
with_choice net chosen choice = cond (is_some (edge net choice)) (chosen ++ choice ∷ []) chosen
