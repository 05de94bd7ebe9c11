-- What is known of labels before times are written.
use Rattle.std.specs.Prelude.{◌≡◌, ◌<◌, ℕ, ℤ, pos, ◌+ℤ◌, ◌≤ℤ◌, List, Some, IfSome}
use Rattle.trail.specs.declared.stamp.Stamp.{Stamp}
use Rattle.diff_bounds.specs.Labels.{labels_from, number}
use Rattle.event_graph.specs.Limits.{IsReach}

-- the label of an event from the source and its feasible time are within the reach of a path, and the feasible time is not above 0
pub record IsInReach (events : ℕ) (stamps : List Stamp) (event : ℕ) : Type 0 where
  pub upper : IfSome (labels_from stamps 0 event) IsReach
  pub feasible : IsReach (number (labels_from stamps events event))
  pub low : number (labels_from stamps events event) ≤ℤ pos 0

abbrev pub AreInReach : ℕ → List Stamp → Type 0
AreInReach events stamps = (event : ℕ) → event < events → IsInReach events stamps event

-- no label from the source is above the feasible time of its event plus a number
abbrev pub LiftsAll : ℕ → List Stamp → ℤ → Type 0
LiftsAll events stamps lift =
    (event : ℕ) (label : ℤ) → event < events → labels_from stamps 0 event ≡ Some label → label ≤ℤ (number (labels_from stamps events event) +ℤ lift)
