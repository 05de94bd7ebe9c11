-- The climbs that the search writes down as walks.
use Rattle.std.specs.Prelude.{◌≡◌, ◌<◌, ◌≤◌, ℕ, pos, ◌<ℤ◌, List, [], ◌∷◌, ◌++◌, length, reverse, All, Some, None}
use Rattle.itv_base.specs.declared.names.EdgeName.{EdgeName}
use Rattle.event_graph.specs.declared.edge.Edge.{Edge}
use Rattle.event_graph.specs.Edges.{edge}
use Rattle.event_graph.specs.Network.{Net}
use Rattle.event_graph.specs.Proof.{IsWalk, path_sum}
use Rattle.trail.specs.Stack.{TrailView}
use Rattle.diff_bounds.specs.declared.arc.Arc.{Arc}
use Rattle.diff_bounds.specs.Current.{IsCurrent}
use Rattle.diff_bounds.specs.Labels.{IsClimb, Parents, parents_from}

-- the one climb from an event to another that has no parent; its parents are among the actual ones
pub record IsOneClimb (net : Net) (actual parent : Parents) (from : ℕ) (names : List EdgeName) (to : ℕ) : Type 0 where
  pub agrees : (event : ℕ) (name : EdgeName) → parent event ≡ Some name → actual event ≡ Some name
  pub top : parent to ≡ None
  pub within : (event : ℕ) (name : EdgeName) (e : Edge) → event < net.events → parent event ≡ Some name → edge net name ≡ Some e → e.from.0 < net.events
  pub climb : IsClimb net parent from names to

-- an edge closes a walk of negative sum: the walk is the climb from the start of the edge to its end, read from the top, and the edge
pub record HasLoop (net : Net) (stack : TrailView) (a : Arc) : Type 0 where
  pub from : a.edge.from.0 < net.events
  pub to : a.edge.to.0 < net.events
  pub parent : Parents
  pub way : List EdgeName
  pub one : IsOneClimb net (parents_from stack.current.stamps net.events) parent a.edge.from.0 way a.edge.to.0
  pub less : length way < net.events
  pub walk : IsWalk net a.edge.to (reverse way ++ a.name ∷ []) a.edge.to
  pub current : All (IsCurrent net stack.current.edges) (reverse way ++ a.name ∷ [])
  pub negative : path_sum net (reverse way ++ a.name ∷ []) <ℤ pos 0
  pub short : length (reverse way ++ a.name ∷ []) ≤ net.events
