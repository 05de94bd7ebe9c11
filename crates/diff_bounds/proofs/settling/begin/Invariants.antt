use Rattle.std.proofs.Common.{◌≡◌, ◌+◌, ◌<◌, ℕ, length}
use Rattle.trail.specs.Stack.{empty_stamp}
use Rattle.diff_bounds.specs.Labels.{stamp_at}
use Rattle.diff_bounds.specs.Step.Falling.{with_stamps}
use Rattle.diff_bounds.specs.Step.Poised.{zero_stamp}
use Rattle.diff_bounds.proofs.settling.begin.Given as goal

abbrev pub invariant-loop-event : goal.invariant-loop-event
invariant-loop-event l = record {
  stack : l.trail ≡ with_stamps l.fn.trail l.trail.current.stamps;
  slots : length l.trail.current.stamps ≡ l.events + l.events;
  uppers : (slot : ℕ) → slot < l.events → stamp_at l.trail.current.stamps slot ≡ empty_stamp;
  feasible : (event : ℕ) → event < l.event → stamp_at l.trail.current.stamps (l.events + event) ≡ zero_stamp;
}
