-- The edges of the choices of a case.
use Rattle.std.specs.Prelude.{Option, Some, None, slice_get}
use Rattle.itv_base.specs.declared.names.EdgeName.{EdgeName}
use Rattle.itv_base.specs.declared.names.Side.{Side}
use Rattle.itv_base.specs.declared.names.Side.TheVariants.{Upper}
use Rattle.event_graph.specs.Edges.{choice_side}
use Rattle.event_graph.specs.Network.{Constraint, Net}
use Rattle.event_graph.specs.Proof.{Choice}

-- the choice side of a constraint that is there
abbrev pub side_of : Option Constraint → Side
side_of None = Upper
side_of (Some c) = choice_side c.kind

-- the edge of a choice, on the choice side of its constraint
abbrev pub choice_name : Net → Choice → EdgeName
choice_name net choice =
    record { constraint = choice.constraint; cause = choice.cause; side = side_of (slice_get net.constraints choice.constraint) }
