use Rattle.std.proofs.Common.{◌≡◌, length}
use Rattle.diff_bounds.proofs.pending.Pending.clear.Given as goal

abbrev pub invariant-loop-event : goal.invariant-loop-event
invariant-loop-event l = length l.self.marks ≡ length l.fn.self.marks

abbrev pub decreases-loop-event : goal.decreases-loop-event
decreases-loop-event l = l.self.count
