-- The chosen edges, each linked to the one before it that starts at the same event.
use Rattle.std.specs.Prelude.{◌≡◌, ◌≢◌, ◌<◌, ◌≤◌, ℕ, suc, List, length, All, Option, Some, None, slice_get, slice_index_or, vec_capacity}
use Rattle.std.specs.List.{AllWithin, HoldsAt}
use Rattle.diff_bounds.specs.declared.arc.Arc.{Arc}
use Rattle.diff_bounds.specs.declared.chosen_edges.ChosenEdges.TheInside.{Inside}

-- the chosen edges, the oldest one first; the number of events; and the number of edges for which there is room
pub record ChosenEdgesView : Type 0 where
  pub arcs : List Arc
  pub events : ℕ
  pub room : ℕ

abbrev pub chosen_in : Inside → ChosenEdgesView
chosen_in c = record { arcs = c.arcs.items; events = length c.latest.items; room = c.room }

-- an edge starts at an event
abbrev pub StartsAt : ℕ → Arc → Type 0
StartsAt event a = a.edge.from.0 ≡ event

-- an edge starts at another event
abbrev pub StartsElsewhere : ℕ → Arc → Type 0
StartsElsewhere event a = a.edge.from.0 ≢ event

-- the place, among the first `count` edges, of the last edge that starts at an event, or none where no edge does
abbrev pub IsLatest : List Arc → ℕ → ℕ → Option ℕ → Type 0
IsLatest arcs event count None = AllWithin (StartsElsewhere event) arcs 0 count
IsLatest arcs event count (Some place) = (place < count) × HoldsAt (StartsAt event) arcs place × AllWithin (StartsElsewhere event) arcs (suc place) count

-- the place of the latest edge that starts at the same event as the edge at a place, and comes before it
abbrev pub IsEarlier : List Arc → ℕ → Option ℕ → Type 0
IsEarlier arcs place earlier = (a : Arc) → slice_get arcs place ≡ Some a → IsLatest arcs a.edge.from.0 place earlier

-- `earlier` has for each edge the latest edge before it that starts at the same event; `latest` has for each event the latest edge that starts there
pub record AreLinked (arcs : List Arc) (earlier latest : List (Option ℕ)) : Type 0 where
  pub count : length earlier ≡ length arcs
  pub starts : All (λ a. a.edge.from.0 < length latest) arcs
  pub before : (place : ℕ) → IsEarlier arcs place (slice_index_or earlier place None)
  pub last : (event : ℕ) → event < length latest → IsLatest arcs event (length arcs) (slice_index_or latest event None)

-- the edges are linked, and there is room for as many edges as `room` says
pub record AreKept (c : Inside) : Type 0 where
  pub linked : AreLinked c.arcs.items c.earlier.items c.latest.items
  pub arcs_room : c.room ≤ vec_capacity c.arcs
  pub earlier_room : c.room ≤ vec_capacity c.earlier
