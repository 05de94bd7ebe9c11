-- Drawn networks, which reports are about.
use Rattle.std.specs.Prelude.{◌≡◌, ◌<◌, ℕ, ℤ, pos, List, [], length, map, slice_get, unwrap_or}
use Rattle.itv_base.specs.Names.{Name}
use Rattle.itv_base.specs.declared.names.EventId.{EventId}
use Rattle.origin.specs.declared.origin.Origin.{Origin}
use Rattle.event_graph.specs.Network.{Constraint, Net}
use Rattle.event_graph.specs.Satisfying.{Satisfies}
use Rattle.event_graph.specs.Times.{time_of}
use Rattle.drawn_networks.specs.declared.row.Row.{Row}

-- a network, what draws each cause of each constraint, the names of the events in order, and the rows
pub record Drawn : Type 0 where
  pub net : Net
  pub origins : List (List Origin)
  pub names : List Name
  pub rows : List Row

abbrev pub nameless : Name
nameless = record { part = []; mark = 0; cycle = 0 }

-- the name of an event
abbrev pub name_of : Drawn → EventId → Name
name_of drawn event = unwrap_or (slice_get drawn.names event.0) nameless

-- each constraint of the network has an origin for each of its causes
abbrev pub OriginsFit : Net → List (List Origin) → Type 0
OriginsFit net origins = map length origins ≡ map (λ (c : Constraint). length c.causes) net.constraints

-- the row is between events of the network
abbrev pub IsRowOf : Net → Row → Type 0
IsRowOf net row = (row.from.0 < net.events) × (row.to.0 < net.events)

-- times that are printed with a row: they satisfy the network, and the from-event of the row is at 0
pub record AreTimes (net : Net) (row : Row) (times : List ℤ) : Type 0 where
  pub satisfied : Satisfies times net
  pub at_zero : time_of times row.from ≡ pos 0
