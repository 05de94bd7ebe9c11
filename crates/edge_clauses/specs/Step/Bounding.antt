-- Bounds that change, and go back to what they were.
use Rattle.std.specs.Prelude.{◌↔◌, ℤ, ◌<ℤ◌, Bool, IsTrue, List, [], ◌∷◌, set}
use Rattle.itv_base.specs.declared.names.EventId.{EventId}
use Rattle.event_graph.specs.Times.{time_of}
use Rattle.edge_clauses.specs.declared.bounds.BoundSide.{BoundSide}
use Rattle.edge_clauses.specs.declared.bounds.BoundSide.TheVariants.{Up, Low}
use Rattle.edge_clauses.specs.declared.bounds.BoundChange.{BoundChange}

-- an upper and a lower bound of each event
pub record Sides : Type 0 where
  pub up : List ℤ
  pub low : List ℤ

-- bounds, and what they were outside of the block
pub record EventBoundsView : Type 0 where
  pub outside : Sides
  pub now : Sides

-- the bounds with another bound of an event on one side
abbrev pub with_bound : BoundSide → EventId → ℤ → Sides → Sides
with_bound Up event value s = record { up = set s.up event.0 value; low = s.low }
with_bound Low event value s = record { up = s.up; low = set s.low event.0 value }

-- the bounds before some changes, the latest of which is the last
abbrev pub undone : List BoundChange → Sides → Sides
undone [] s = s
undone (c ∷ cs) s = with_bound c.side c.event c.old (undone cs s)

-- bounds and their changes, as a pair
abbrev pub pair_of : List BoundChange → List ℤ → List ℤ → EventBoundsView
pair_of changes up low = record { outside = undone changes (record { up = up; low = low }); now = record { up = up; low = low } }

-- the upper bound of some event is below its lower bound
abbrev pub HasCrossed : Sides → Type 0
HasCrossed s = (event : EventId) × (time_of s.up event <ℤ time_of s.low event)

-- flags say whether bounds have crossed
pub record AreCrossedAs (is_now is_outside : Bool) (pair : EventBoundsView) : Type 0 where
  pub now : IsTrue is_now ↔ HasCrossed pair.now
  pub outside : IsTrue is_outside ↔ HasCrossed pair.outside
