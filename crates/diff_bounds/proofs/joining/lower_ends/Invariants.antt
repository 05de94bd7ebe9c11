use Rattle.std.proofs.Common.{◌≡◌, length}
use Rattle.diff_bounds.proofs.joining.lower_ends.Given as goal

abbrev pub invariant-loop-arc : goal.invariant-loop-arc
invariant-loop-arc l = length l.pending.marks ≡ length l.fn.pending.marks
