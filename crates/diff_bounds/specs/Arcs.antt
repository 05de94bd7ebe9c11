-- Edges with their names, by the event where they start.
use Rattle.std.specs.Prelude.{◌≡◌, ℕ, ◌≤ℤ◌, List, length, map, All, Contains, Some}
use Rattle.itv_base.specs.declared.names.EdgeName.{EdgeName}
use Rattle.event_graph.specs.declared.edge.Edge.{Edge}
use Rattle.event_graph.specs.Edges.{IsAlways, edge}
use Rattle.event_graph.specs.EventLists.{at_event}
use Rattle.event_graph.specs.Network.{Net}
use Rattle.diff_bounds.specs.declared.arc.Arc.{Arc}
use Rattle.diff_bounds.specs.Labels.{IsEdgeWithin}

-- the edge has this name, and is between events of the network
pub record IsArc (net : Net) (a : Arc) : Type 0 where
  pub is : edge net a.name ≡ Some a.edge
  pub within : IsEdgeWithin net.events a.edge

-- some edges have one that leads to the same event with no greater weight
abbrev pub HasLight : List Arc → Edge → Type 0
HasLight arcs e = (a : Arc) × Contains arcs a × (a.edge.to ≡ e.to) × (a.edge.weight ≤ℤ e.weight)

-- a list for each event, of always-edges that start there; where always-edges lead to one event, the list has one of least weight
pub record AreAlwaysArcs (net : Net) (out : List (List Arc)) : Type 0 where
  pub count : length out ≡ net.events
  pub each : (event : ℕ) → All (IsArc net) (at_event out event)
  pub starts : (event : ℕ) → All (λ (a : Arc). a.edge.from.0 ≡ event) (at_event out event)
  pub sound : (event : ℕ) → All (λ (a : Arc). IsAlways net a.name) (at_event out event)
  pub complete : (name : EdgeName) (e : Edge) → IsAlways net name → edge net name ≡ Some e → HasLight (at_event out e.from.0) e

-- the edges of the chosen names, in their order
pub record AreChosenArcs (net : Net) (chosen : List EdgeName) (arcs : List Arc) : Type 0 where
  pub each : All (IsArc net) arcs
  pub names : map (λ (a : Arc). a.name) arcs ≡ chosen
