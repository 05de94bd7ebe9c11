use Rattle.std.proofs.Common.{◌≡◌, length}
use Rattle.diff_bounds.proofs.joining.make_way.Given as goal

abbrev pub invariant-loop-taken : goal.invariant-loop-taken
invariant-loop-taken l = length l.pending.marks ≡ length l.fn.pending.marks
