use Rattle.std.proofs.Common.{ℕ, ◌≤◌, ◌<◌, IsTrue, false, slice_get, slice_index_or}
use Rattle.std.specs.Prelude.{Contains, IfSome}
use Rattle.moves.specs.Step.{lent}
use Rattle.moves.specs.declared.number_seen.NumberSeen.{NumberSeen}
use Rattle.margins.proofs.free.unused_numbers.Given as goal

-- the marked numbers so far are there
abbrev pub invariant-loop-k : goal.invariant-loop-k
invariant-loop-k l =
    (j : ℕ) → l.start ≤ j → j < l.k → IsTrue (slice_index_or l.unused j false) → IfSome (slice_get l.seen j) (λ (s : NumberSeen). Contains (lent l.numbers.items) s.number)
