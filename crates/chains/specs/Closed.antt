-- Sets of events that no tight edge enters from outside. An edge is tight if it binds and the times meet it with equality.
use Rattle.std.specs.Prelude.{false, ℤ, Bool, IsTrue, List, IfSome, slice_index_or}
use Rattle.itv_base.specs.declared.names.EdgeName.{EdgeName}
use Rattle.itv_base.specs.declared.names.EventId.{EventId}
use Rattle.event_graph.specs.Edges.{edge}
use Rattle.event_graph.specs.Network.{Net}
use Rattle.chains.specs.Chain.{IsTight}

-- the event is in the set; the set has a flag for each event
abbrev pub Has : List Bool → EventId → Type 0
Has set event = IsTrue (slice_index_or set event.0 false)

-- the named edge does not lead into the set from outside, or it is not tight
abbrev pub DoesNotEnter : Net → List ℤ → List Bool → EdgeName → Type 0
DoesNotEnter net times set name = IsTight net times name → IfSome (edge net name) (λ e. Has set e.to → Has set e.from)

-- no tight edge leads into the set from outside
abbrev pub IsClosedSet : Net → List ℤ → List Bool → Type 0
IsClosedSet net times set = (name : EdgeName) → DoesNotEnter net times set name
