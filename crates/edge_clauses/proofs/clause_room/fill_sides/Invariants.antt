use Rattle.std.proofs.Common.{◌≡◌, Some, map, slice_get, take}
use Rattle.event_graph.specs.Edges.{side_edge}
use Rattle.event_graph.specs.Network.{Constraint}
use Rattle.edge_clauses.proofs.clause_room.fill_sides.Given as goal

-- the edges of the causes so far
abbrev pub invariant-loop-cause : goal.invariant-loop-cause
invariant-loop-cause l = (k : Constraint) → slice_get l.net.constraints l.number ≡ Some k → map (side_edge l.side k.target) (take l.cause k.causes) ≡ map Some l.room.items
