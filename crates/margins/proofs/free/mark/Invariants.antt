use Rattle.std.proofs.Common.{ℕ, ◌≤◌, ◌<◌, ◌⊎◌, IsTrue, false, slice_index_or}
use Rattle.margins.proofs.free.mark.Given as goal

-- what is marked was so before, or is one of those so far
abbrev pub invariant-loop-k : goal.invariant-loop-k
invariant-loop-k l =
    (j : ℕ) → IsTrue (slice_index_or l.free j false) → IsTrue (slice_index_or l.fn.free j false) ⊎ ((l.start ≤ j) × (j < l.k) × IsTrue (slice_index_or l.marked j false))
