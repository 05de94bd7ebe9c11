use Rattle.std.proofs.Common.{◌≡◌, ◌<◌, ℕ, pos, Some, get_or, int_lt, slice_get}
use Rattle.falling.proofs.greatest.mark_above.Given as goal

-- the flags so far
abbrev pub invariant-loop-event : goal.invariant-loop-event
invariant-loop-event l = (k : ℕ) → k < l.event → slice_get l.ray k ≡ Some (int_lt l.level.value (get_or l.values k (pos 0)))
