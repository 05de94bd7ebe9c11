-- Events from which tight edges lead to one event: edges that bind, and that times meet with equality.
use Rattle.std.specs.Prelude.{◌≡◌, ◌≤◌, ◌+◌, ◌⊎◌, true, false, ℕ, ℤ, Bool, List, [], ◌∷◌, length, count_by, cond, reverse, replicate, Some, IsSomeAnd, slice_set, vec_capacity}
use Rattle.itv_base.specs.declared.names.EdgeName.{EdgeName}
use Rattle.itv_base.specs.declared.names.EventId.{EventId}
use Rattle.event_graph.specs.declared.edge.Edge.{Edge}
use Rattle.event_graph.specs.Edges.{edge}
use Rattle.event_graph.specs.Network.{Net}
use Rattle.event_graph.specs.Times.{separation}
use Rattle.chains.specs.declared.spread.Spread.TheInside.{Inside}
use Rattle.chains.specs.Chain.{IsBinding, IsTight}
use Rattle.chains.specs.Closed.{Has, DoesNotEnter}

-- A flag for each event says whether it was reached. Each reached event but one has an edge that leads from it; the edge of the event that was
-- reached last stands first.
pub record Spread : Type 0 where
  pub reached : List Bool
  pub found : List EdgeName

abbrev pub spread_in : Inside → Spread
spread_in s = record { reached = s.reached.items; found = reverse s.found.items }

abbrev pub is_unreached : Bool → Bool
is_unreached flag = cond flag false true

-- there is room for an edge of each event that was not reached
pub record HasRoom (s : Inside) : Type 0 where
  pub room : length s.found.items + count_by is_unreached s.reached.items ≤ length s.reached.items
  pub capacity : length s.reached.items ≤ vec_capacity s.found

-- one event was reached, and there is no edge yet
abbrev pub spread_at : ℕ → EventId → Spread
spread_at events to = record { reached = slice_set (replicate events false) to.0 true; found = [] }

-- one more event was reached, by an edge that leads from it
abbrev pub spread_by : Spread → EventId → EdgeName → Spread
spread_by spread event name = record { reached = slice_set spread.reached event.0 true; found = name ∷ spread.found }

-- the edge leads from the event
abbrev pub LeadsFrom : Net → EventId → EdgeName → Type 0
LeadsFrom net event name = IsSomeAnd (edge net name) (λ e. e.from ≡ event)

-- the event is the event to which all edges lead, or one of the edges leads from it
abbrev pub IsReached : Net → EventId → List EdgeName → EventId → Type 0
IsReached net to [] event = event ≡ to
IsReached net to (name ∷ names) event = LeadsFrom net event name ⊎ IsReached net to names event

-- each edge is tight, and leads to an event that the edges after it in the list reach
abbrev pub LeadOn : Net → List ℤ → EventId → List EdgeName → Type 0
LeadOn net times to [] = Unit {0}
LeadOn net times to (name ∷ names) =
    IsTight net times name × IsSomeAnd (edge net name) (λ e. IsReached net to names e.to) × LeadOn net times to names

-- the found edges lead from each reached event to one event
pub record IsSpread (net : Net) (times : List ℤ) (to : EventId) (spread : Spread) : Type 0 where
  pub count : length spread.reached ≡ net.events
  pub lead : LeadOn net times to spread.found
  pub each : (event : EventId) → Has spread.reached event → IsReached net to spread.found event
  pub end : Has spread.reached to

-- the edge of a name is there and binds, and the times meet it with equality
pub record IsTightEdge (net : Net) (times : List ℤ) (name : EdgeName) (e : Edge) : Type 0 where
  pub named : edge net name ≡ Some e
  pub tight : separation times e.from e.to ≡ e.weight
  pub binds : IsBinding net times name

-- Some edges were looked at. No event is lost, and new events are reached by edges found. If no event is new, no edge that was looked at
-- leads into the reached events from outside.
pub record LooksAt (net : Net) (times : List ℤ) (IsSeen : EdgeName → Type 0) (old new : Spread) : Type 0 where
  pub events : length new.reached ≡ length old.reached
  pub spreads : (to : EventId) → IsSpread net times to old → IsSpread net times to new
  pub more : length old.found ≤ length new.found
  pub none : length new.found ≡ length old.found → new ≡ old × ((name : EdgeName) → IsSeen name → DoesNotEnter net times old.reached name)
