-- Edges that allow a bound.
use Rattle.std.specs.Prelude.{◌⊎◌, ℤ}
use Rattle.itv_base.specs.declared.names.EventId.{EventId}
use Rattle.event_graph.specs.declared.edge.Edge.{Edge}
use Rattle.edge_clauses.specs.Lines.{Frame, GivesLeast, GivesMost, Goal, IsEdgeRefuted}

-- an edge is refuted, or gives the event an upper bound of at most this
unfoldable pub AllowsFall : Goal → Frame → EventId → ℤ → Edge → Type 0
AllowsFall goal frame event value e = IsEdgeRefuted goal frame e ⊎ GivesMost frame event value e

-- an edge is refuted, or gives the event a lower bound of at least this
unfoldable pub AllowsRise : Goal → Frame → EventId → ℤ → Edge → Type 0
AllowsRise goal frame event value e = IsEdgeRefuted goal frame e ⊎ GivesLeast goal frame event value e
