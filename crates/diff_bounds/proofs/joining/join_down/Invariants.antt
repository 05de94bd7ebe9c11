use Rattle.std.proofs.Common.{◌≡◌, ◌≤◌, length}
use Rattle.diff_bounds.proofs.joining.join_down.Given as goal

abbrev pub invariant-loop-first : goal.invariant-loop-first
invariant-loop-first l = record {
  within : l.first ≤ l.net.events;
  marks : length l.pending.marks ≡ length l.fn.pending.marks;
}

abbrev pub decreases-loop-first : goal.decreases-loop-first
decreases-loop-first l = l.first
