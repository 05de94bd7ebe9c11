-- What is known of a guess of times before it has been seen to meet the edges, and after.
use Rattle.std.specs.Prelude.{◌≡◌, ◌<◌, ◌≤◌, ℕ, ℤ, List, length, All, Some}
use Rattle.itv_base.specs.declared.names.EdgeName.{EdgeName}
use Rattle.itv_base.specs.declared.names.EventId.{EventId}
use Rattle.event_graph.specs.declared.edge.Edge.{Edge}
use Rattle.event_graph.specs.Edges.{IsAlways, Meets, edge}
use Rattle.event_graph.specs.Network.{Net}
use Rattle.diff_bounds.specs.declared.arc.Arc.{Arc}
use Rattle.diff_bounds.specs.declared.guess.Guess.TheInside.{Inside}

-- a list with as many places as a network has events; at each place there is an event of the network
pub record AreEvents (events : ℕ) (order : List EventId) : Type 0 where
  pub count : length order ≡ events
  pub within : All (λ (event : EventId). event.0 < events) order

-- an edge leads between events below a number
abbrev pub IsBetween : ℕ → Arc → Type 0
IsBetween limit a = (a.edge.from.0 < limit) × (a.edge.to.0 < limit)

-- times meet all always-edges that start at event `first` or at a later one
abbrev pub MeetFrom : ℕ → List ℤ → Net → Type 0
MeetFrom first times net = (name : EdgeName) (e : Edge) → IsAlways net name → edge net name ≡ Some e → first ≤ e.from.0 → Meets times e

-- there are as many times of the draft, places in the order, counts and flags as times
pub record HasCounts (g : Inside) : Type 0 where
  pub draft : length g.draft.items ≡ length g.times.items
  pub order : AreEvents (length g.times.items) g.order.items
  pub due : length g.due.items ≡ length g.times.items
  pub waits : length g.waits.items ≡ length g.times.items
