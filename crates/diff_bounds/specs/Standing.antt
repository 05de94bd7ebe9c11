-- What contracts see of bounds, when a graph stands, and what the calls do.
use Rattle.std.specs.Prelude.{◌≡◌, ◌+◌, ◌<◌, ◌≤◌, ℕ, ℤ, ◌+ℤ◌, ◌≤ℤ◌, Bool, List, ◌∷◌, length, take, Option, Some, None, is_none, IsTrue, slice_get}
use Rattle.itv_base.specs.declared.limits.TheConstants.{MAX_EVENTS}
use Rattle.itv_base.specs.declared.names.EdgeName.{EdgeName}
use Rattle.itv_base.specs.declared.names.EventId.{EventId}
use Rattle.event_graph.specs.Network.{IsNet, Net, splittable_count}
use Rattle.event_graph.specs.Times.{time_of}
use Rattle.trail.specs.Stack.{TrailView}
use Rattle.diff_bounds.specs.declared.arc.Arc.{Arc}
use Rattle.diff_bounds.specs.declared.bounds.Bounds.TheInside.{Inside}
use Rattle.diff_bounds.specs.Arcs.{AreAlwaysArcs, AreChosenArcs}
use Rattle.diff_bounds.specs.Current.{with_choice}
use Rattle.diff_bounds.specs.Labels.{HasFallen, labels_from, number, stamp_at}
use Rattle.diff_bounds.specs.Settled.{AreSettled, IsRootGraph, bottom}

-- the number of events, the always-edges by the event where they start, the chosen edges, the stack of graphs, how many events the queue is made for,
-- whether the feasible times of the first graph have settled, the source, and the walk that was found last
pub record BoundsView : Type 0 where
  pub events : ℕ
  pub out : List (List Arc)
  pub arcs : List Arc
  pub trail : TrailView
  pub waiting : ℕ
  pub settled : Bool
  pub source : Option EventId
  pub walk : List EdgeName

abbrev pub standing_in : Inside → BoundsView
standing_in b = record {
  events = b.events;
  out = b.out;
  arcs = b.chosen.arcs;
  trail = b.trail;
  waiting = length b.pending.marks;
  settled = b.settled;
  source = b.source;
  walk = take b.count b.walk.items;
}

-- there is room for all edges of a walk, all chosen edges and a guess, and the number of events is within its limit
pub record HasRoom (b : Inside) : Type 0 where
  pub walk : length b.walk.items ≡ b.events
  pub count : b.count ≤ b.events
  pub chosen : b.trail.levels ≤ b.chosen.room
  pub starts : b.chosen.events ≡ b.events
  pub guess : length b.guess ≡ b.events
  pub events : b.events ≤ MAX_EVENTS

-- the bounds are made for a network: the trail has two slots for each event, and a level for each constraint with two or more causes
pub record IsMadeFor (net : Net) (b : BoundsView) : Type 0 where
  pub is_net : IsNet net
  pub events : b.events ≡ net.events
  pub out : AreAlwaysArcs net b.out
  pub levels : b.trail.levels ≡ splittable_count net
  pub slots : length b.trail.current.stamps ≡ net.events + net.events
  pub waiting : b.waiting ≡ net.events
  pub root : IsTrue b.settled → IsRootGraph net (bottom b.trail.current b.trail.below)

-- a graph stands: the labels of all graphs of the stack have settled
pub record Stands (net : Net) (b : BoundsView) : Type 0 where
  pub made : IsMadeFor net b
  pub graphs : AreSettled net b.source b.trail.current b.trail.below
  pub chosen : AreChosenArcs net b.trail.current.edges b.arcs

-- the chosen edges of the current graph, the latest one last
abbrev pub chosen_of : BoundsView → List EdgeName
chosen_of b = b.trail.current.edges

-- the label of an event from the source; its slot in the trail is the number of the event
abbrev pub upper_of : BoundsView → ℕ → Option ℤ
upper_of b event = labels_from b.trail.current.stamps 0 event

-- the feasible time of an event; its slot is in the second half
abbrev pub feasible_of : BoundsView → ℕ → ℤ
feasible_of b event = number (labels_from b.trail.current.stamps b.events event)

-- a label, or a time where there is no label
abbrev pub lifted : Option ℤ → ℤ → ℤ
lifted None time = time
lifted (Some label) time = label

-- a number that makes feasible times late enough: no label from the source is above the feasible time of its event plus this number
abbrev pub IsLift : BoundsView → ℤ → Type 0
IsLift b lift = (event : ℕ) (label : ℤ) → event < b.events → upper_of b event ≡ Some label → label ≤ℤ (feasible_of b event +ℤ lift)

-- the times that `times_into` writes: an event with a label from the source has this label as its time; each other event has its feasible time plus
-- one number, which is the same for all
pub record AreTimesOf (b : BoundsView) (times : List ℤ) : Type 0 where
  pub count : length times ≡ b.events
  pub lift : ℤ
  pub is_lift : IsLift b lift
  pub each : (event : EventId) → event.0 < b.events → time_of times event ≡ lifted (upper_of b event.0) (feasible_of b event.0 +ℤ lift)

-- a flag for each event: whether it has no label from the source
pub record IsRayOf (b : BoundsView) (set : List Bool) : Type 0 where
  pub count : length set ≡ b.events
  pub each : (event : EventId) → event.0 < b.events → slice_get set event.0 ≡ Some (is_none (upper_of b event.0))

-- a descent put one graph on the stack: its edges are the old ones, and the choice if this names an edge; each stamp is as it was or lower
pub record HasDescended (net : Net) (choice : EdgeName) (old new : BoundsView) : Type 0 where
  pub levels : new.trail.levels ≡ old.trail.levels
  pub below : new.trail.below ≡ old.trail.current ∷ old.trail.below
  pub edges : chosen_of new ≡ with_choice net (chosen_of old) choice
  pub fallen : (slot : ℕ) → HasFallen (stamp_at old.trail.current.stamps slot) (stamp_at new.trail.current.stamps slot)
  pub source : new.source ≡ old.source
