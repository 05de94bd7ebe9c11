use Rattle.std.proofs.Common.{◌≡◌, ◌<◌, ◌≤◌, ℕ, length, true}
use Rattle.diff_bounds.specs.Step.Waiting.{is_waiting}
use Rattle.diff_bounds.proofs.settling.push_from.Given as goal

abbrev pub invariant-loop-event : goal.invariant-loop-event
invariant-loop-event l = record {
  marks : length l.pending.marks ≡ length l.fn.pending.marks;
  all : (event : ℕ) → l.first ≤ event → event < l.event → is_waiting l.pending.marks event ≡ true;
}
