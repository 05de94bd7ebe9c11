-- What the bounds of a search stand on: the choices of a case.
use Rattle.std.specs.Prelude.{◌≡◌, ◌<◌, ℕ, ℤ, Bool, true, false, List, [], ◌∷◌, length, map, All, Option, Some, None, slice_get}
use Rattle.itv_base.specs.declared.names.EdgeName.{EdgeName}
use Rattle.itv_base.specs.declared.names.EventId.{EventId}
use Rattle.event_graph.specs.Bounds.{IsGreatestAmong, IsUnboundedAmong}
use Rattle.event_graph.specs.Network.{Net}
use Rattle.event_graph.specs.Proof.{Case}
use Rattle.event_graph.specs.Times.{raised, separation}
use Rattle.event_graph.specs.Usable.{MeetsUsable}
use Rattle.trail.specs.Stack.{Graph}
use Rattle.diff_bounds.specs.Current.{with_choice}
use Rattle.diff_bounds.specs.Limits.{IsTimely}
use Rattle.diff_bounds.specs.Standing.{IsMadeFor, BoundsView, Stands, chosen_of, upper_of}
use Rattle.branch.specs.Step.Edges.{choice_name}

-- the edges that bounds on a case have chosen
abbrev pub edges_of : Net → Case → List EdgeName
edges_of net [] = []
edges_of net (choice ∷ below) = with_choice net (edges_of net below) (choice_name net choice)

-- the chosen edges of each graph below, the nearest graph first
abbrev pub edges_below : Net → Case → List (List EdgeName)
edges_below net [] = []
edges_below net (choice ∷ below) = edges_of net below ∷ edges_below net below

-- the bounds stand on a case, with a level for each of its choices
pub record StandsOn (net : Net) (chosen : Case) (bounds : BoundsView) : Type 0 where
  pub stands : Stands net bounds
  pub edges : chosen_of bounds ≡ edges_of net chosen
  pub below : map (λ (graph : Graph). graph.edges) bounds.trail.below ≡ edges_below net chosen

-- the bounds stand on all choices of a case but the latest
abbrev pub StandsBelow : Net → Case → BoundsView → Type 0
StandsBelow net [] bounds = Unit {0}
StandsBelow net (choice ∷ below) bounds = StandsOn net below bounds

-- the bounds are of the same network, from the same source
pub record AreOfSame (net : Net) (before now : BoundsView) : Type 0 where
  pub source : now.source ≡ before.source
  pub made : IsMadeFor net before → IsMadeFor net now

-- the greatest separation of an event from the source is a number
abbrev pub HasUpper : BoundsView → EventId → ℤ → Type 0
HasUpper bounds event value = upper_of bounds event.0 ≡ Some value

-- the greatest separation of an event from the source is unbounded
abbrev pub HasNoUpper : BoundsView → EventId → Type 0
HasNoUpper bounds event = upper_of bounds event.0 ≡ None

-- among the times that meet the usable edges of a case, this is the greatest separation of a pair, or there is none
abbrev pub IsUpperIn : Net → Case → EventId → EventId → Option ℤ → Type 0
IsUpperIn net chosen from to (Some value) = IsGreatestAmong (λ times. MeetsUsable net chosen times) from to value
IsUpperIn net chosen from to None = IsUnboundedAmong (λ times. MeetsUsable net chosen times) from to

-- times that meet the usable edges of a case, and that attain each greatest separation from the source that is a number
pub record AreTimesIn (net : Net) (chosen : Case) (bounds : BoundsView) (times : List ℤ) : Type 0 where
  pub meets : MeetsUsable net chosen times
  pub near : All IsTimely times
  pub attained : (from to : EventId) (value : ℤ) → bounds.source ≡ Some from → to.0 < net.events → HasUpper bounds to value → separation times from to ≡ value

-- a set of events that can be raised from the times by any number
pub record IsRayIn (net : Net) (chosen : Case) (from to : EventId) (times : List ℤ) (ray : List Bool) : Type 0 where
  pub meets : (by : ℕ) → MeetsUsable net chosen (raised ray by times)
  pub near : All IsTimely times
  pub count : length ray ≡ net.events
  pub lacks : slice_get ray from.0 ≡ Some false
  pub holds : slice_get ray to.0 ≡ Some true
