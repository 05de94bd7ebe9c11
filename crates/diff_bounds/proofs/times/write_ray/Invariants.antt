use Rattle.std.proofs.Common.{◌≡◌, ◌<◌, ℕ, Some, is_none, slice_get}
use Rattle.diff_bounds.specs.Labels.{labels_from}
use Rattle.diff_bounds.proofs.times.write_ray.Given as goal

abbrev pub invariant-loop-event : goal.invariant-loop-event
invariant-loop-event l = (v : ℕ) → v < l.event → slice_get l.out v ≡ Some (is_none (labels_from l.trail.current.stamps 0 v))
