use Rattle.std.proofs.Common.{◌≡◌, ◌<◌, ℕ, length, get_or}
use Rattle.falling.specs.Step.Agenda.{IsPending}
use Rattle.falling.proofs.pending_flags.insert_all.Given as goal

-- the numbers so far have their flags, and so has each that had it
abbrev pub invariant-loop-place : goal.invariant-loop-place
invariant-loop-place l = record {
  count : length l.pending ≡ length l.fn.pending;
  there : (i d : ℕ) → i < l.place → IsPending l.pending (get_or l.numbers i d);
  kept : (k : ℕ) → IsPending l.fn.pending k → IsPending l.pending k;
}
