-- The lists of always-edges by the event where they start, while they grow.
use Rattle.std.specs.Prelude.{◌≡◌, ◌<◌, ◌⊎◌, ℕ, List, length, set, All, Contains, Some}
use Rattle.std.specs.List.{HoldsAt}
use Rattle.itv_base.specs.declared.names.EventId.{EventId}
use Rattle.itv_base.specs.declared.names.EdgeName.{EdgeName}
use Rattle.itv_base.specs.declared.names.Side.{Side}
use Rattle.event_graph.specs.declared.edge.Edge.{Edge}
use Rattle.event_graph.specs.Edges.{IsAlways, edge}
use Rattle.event_graph.specs.EventLists.{at_event}
use Rattle.event_graph.specs.Network.{Net}
use Rattle.diff_bounds.specs.declared.arc.Arc.{Arc}
use Rattle.diff_bounds.specs.Arcs.{HasLight, IsArc}

-- each list has always-edges that start at its event; some always-edges may still be missing
pub record AreArcsSoFar (net : Net) (out : List (List Arc)) : Type 0 where
  pub count : length out ≡ net.events
  pub each : (event : ℕ) → All (IsArc net) (at_event out event)
  pub starts : (event : ℕ) → All (λ (a : Arc). a.edge.from.0 ≡ event) (at_event out event)
  pub sound : (event : ℕ) → All (λ (a : Arc). IsAlways net a.name) (at_event out event)

-- the edge at a place of a list leads to an event
abbrev pub IsPlaceOf : List Arc → EventId → ℕ → Type 0
IsPlaceOf list to place = (place < length list) × HoldsAt (λ (a : Arc). a.edge.to ≡ to) list place

-- an edge has joined a list: the new list has only old edges and this one, and each edge that had a light one still has one
pub record HasJoined (arc : Arc) (old new : List Arc) : Type 0 where
  pub among : All (λ (a : Arc). Contains old a ⊎ (a ≡ arc)) new
  pub kept : (e : Edge) → HasLight old e → HasLight new e
  pub light : HasLight new arc.edge

-- an edge has joined the list of the event where it starts
pub record JoinsAt (arc : Arc) (old new : List (List Arc)) : Type 0 where
  pub list : List Arc
  pub is : new ≡ set old arc.edge.from.0 list
  pub joins : HasJoined arc (at_event old arc.edge.from.0) list

-- lists that have grown by always-edges
pub record Grows (net : Net) (old new : List (List Arc)) : Type 0 where
  pub arcs : AreArcsSoFar net new
  pub kept : (event : ℕ) (e : Edge) → HasLight (at_event old event) e → HasLight (at_event new event) e

-- if the edge of a name is an always-edge, its list has a light one for it
abbrev pub HasName : Net → List (List Arc) → EdgeName → Type 0
HasName net out name = (e : Edge) → IsAlways net name → edge net name ≡ Some e → HasLight (at_event out e.from.0) e

-- the same for both edges of a cause of a constraint
abbrev pub HasCause : Net → List (List Arc) → ℕ → ℕ → Type 0
HasCause net out constraint cause = (side : Side) → HasName net out (record { constraint = constraint; cause = cause; side = side })
