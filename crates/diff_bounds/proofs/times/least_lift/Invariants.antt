use Rattle.std.proofs.Common.{◌≡◌, ◌<◌, ℕ, ℤ, pos, ◌+ℤ◌, ◌≤ℤ◌, Some}
use Rattle.diff_bounds.specs.Labels.{labels_from, number}
use Rattle.diff_bounds.specs.Limits.{near_limit}
use Rattle.diff_bounds.proofs.times.least_lift.Given as goal

abbrev pub invariant-loop-event : goal.invariant-loop-event
invariant-loop-event l = record {
  low : pos 0 ≤ℤ l.lift;
  high : l.lift ≤ℤ pos near_limit;
  lifts : (event : ℕ) (label : ℤ) → event < l.event → labels_from l.trail.current.stamps 0 event ≡ Some label → label ≤ℤ (number (labels_from l.trail.current.stamps l.events event) +ℤ l.lift);
}
