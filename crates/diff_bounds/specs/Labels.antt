-- Labels of events, which fall along edges, and the edge over which each label came.
use Rattle.std.specs.Prelude.{◌≡◌, ◌<◌, ◌≤◌, ℕ, ℤ, pos, neg_ℤ, ◌+ℤ◌, ◌≤ℤ◌, ◌⊎◌, Bool, true, false, List, [], ◌∷◌, Option, Some, None, slice_index_or, int_lt, ◌+◌}
use Rattle.itv_base.specs.declared.names.EdgeName.{EdgeName}
use Rattle.event_graph.specs.declared.edge.Edge.{Edge}
use Rattle.event_graph.specs.Edges.{edge}
use Rattle.event_graph.specs.Network.{Net}
use Rattle.trail.specs.declared.stamp.Stamp.{Stamp}
use Rattle.trail.specs.Stack.{empty_stamp}
use Rattle.diff_bounds.specs.Current.{IsCurrent}
use Rattle.event_graph.specs.Limits.{weight_limit}

-- the label of each event, or none for an event that was not reached
abbrev pub GraphLabels : Type 0
GraphLabels = ℕ → Option ℤ

-- the edge over which the label of each event came, or none for a label that came over no edge
abbrev pub Parents : Type 0
Parents = ℕ → Option EdgeName

abbrev pub stamp_at : List Stamp → ℕ → Stamp
stamp_at stamps slot = slice_index_or stamps slot empty_stamp

-- the labels in the slots from a base on
abbrev pub labels_from : List Stamp → ℕ → GraphLabels
labels_from stamps base event = (stamp_at stamps (base + event)).label

-- the parents in the slots from a base on
abbrev pub parents_from : List Stamp → ℕ → Parents
parents_from stamps base event = (stamp_at stamps (base + event)).parent

-- the number of a label, or 0
abbrev pub number : Option ℤ → ℤ
number None = pos 0
number (Some label) = label

-- a label is less than the label that stands, or no label stands
abbrev pub is_lower : Option ℤ → Option ℤ → Bool
is_lower None standing = false
is_lower (Some label) None = true
is_lower (Some label) (Some standing) = int_lt label standing

-- both events of an edge are there, and its weight is within the limit
pub record IsEdgeWithin (events : ℕ) (e : Edge) : Type 0 where
  pub from : e.from.0 < events
  pub to : e.to.0 < events
  pub low : neg_ℤ (pos weight_limit) ≤ℤ e.weight
  pub high : e.weight ≤ℤ pos weight_limit

-- the edges that count: the current edges of a network that start at event `first` or at a later event
pub record Scope : Type 0 where
  pub net : Net
  pub chosen : List EdgeName
  pub first : ℕ

-- an edge of a scope, by its name
pub record IsAmong (s : Scope) (name : EdgeName) (e : Edge) : Type 0 where
  pub is : edge s.net name ≡ Some e
  pub current : IsCurrent s.net s.chosen name
  pub from : s.first ≤ e.from.0

-- a climb goes from an event over its parent to the start of this edge, and so on, up to the event at the top
abbrev pub IsClimb : Net → Parents → ℕ → List EdgeName → ℕ → Type 0
IsClimb net parent event [] top = event ≡ top
IsClimb net parent event (name ∷ names) top = (parent event ≡ Some name) × ((e : Edge) × (edge net name ≡ Some e) × IsClimb net parent e.from.0 names top)

-- a climb from an event ends at an event without a parent
pub record IsRooted (net : Net) (parent : Parents) (event : ℕ) : Type 0 where
  pub root : ℕ
  pub way : List EdgeName
  pub climb : IsClimb net parent event way root
  pub top : parent root ≡ None

-- the label of an event came over an edge; it has not fallen since then, but the label at the start of the edge may have fallen
pub record IsHeld (s : Scope) (label : GraphLabels) (event : ℕ) (name : EdgeName) : Type 0 where
  pub e : Edge
  pub among : IsAmong s name e
  pub within : IsEdgeWithin s.net.events e
  pub ends : e.to.0 ≡ event
  pub near : ℤ
  pub start : label e.from.0 ≡ Some near
  pub far : ℤ
  pub here : label event ≡ Some far
  pub below : (near +ℤ e.weight) ≤ℤ far

-- labels that fell from first labels over the edges of a scope: a label with a parent came over it, a label without one is still the first label, and
-- each climb over parents ends
pub record IsForest (s : Scope) (start label : GraphLabels) (parent : Parents) : Type 0 where
  pub rooted : (event : ℕ) → event < s.net.events → IsRooted s.net parent event
  pub held : (event : ℕ) (name : EdgeName) → event < s.net.events → parent event ≡ Some name → IsHeld s label event name
  pub roots : (event : ℕ) → event < s.net.events → parent event ≡ None → label event ≡ start event

-- an edge leads to an event with a label, which is at most a number plus the weight of the edge
pub record IsFollowed (label : GraphLabels) (e : Edge) (near : ℤ) : Type 0 where
  pub far : ℤ
  pub here : label e.to.0 ≡ Some far
  pub within : far ≤ℤ (near +ℤ e.weight)

-- an edge is followed, if there is a label at its start
abbrev pub Follows : GraphLabels → Edge → Type 0
Follows label e = (near : ℤ) → label e.from.0 ≡ Some near → IsFollowed label e near

-- all edges of a scope are followed
abbrev pub HaveSettled : Scope → GraphLabels → Type 0
HaveSettled s label = (name : EdgeName) (e : Edge) → IsAmong s name e → Follows label e

-- a stamp is as it was, or it has a lower label, or the first label in its slot
abbrev pub HasFallen : Stamp → Stamp → Type 0
HasFallen old new = (new ≡ old) ⊎ (is_lower new.label old.label ≡ true)
