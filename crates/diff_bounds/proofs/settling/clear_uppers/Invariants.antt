use Rattle.std.proofs.Common.{◌≡◌, ◌<◌, ◌≤◌, ℕ, length}
use Rattle.trail.specs.Stack.{empty_stamp}
use Rattle.diff_bounds.specs.Labels.{stamp_at}
use Rattle.diff_bounds.specs.Step.Falling.{with_stamps}
use Rattle.diff_bounds.proofs.settling.clear_uppers.Given as goal

abbrev pub invariant-loop-event : goal.invariant-loop-event
invariant-loop-event l = record {
  stack : l.trail ≡ with_stamps l.fn.trail l.trail.current.stamps;
  count : length l.trail.current.stamps ≡ length l.fn.trail.current.stamps;
  uppers : (slot : ℕ) → slot < l.event → stamp_at l.trail.current.stamps slot ≡ empty_stamp;
  others : (slot : ℕ) → l.event ≤ slot → stamp_at l.trail.current.stamps slot ≡ stamp_at l.fn.trail.current.stamps slot;
}
