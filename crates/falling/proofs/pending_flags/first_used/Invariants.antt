use Rattle.falling.specs.Step.Words.{AreEmpty}
use Rattle.falling.proofs.pending_flags.first_used.Given as goal

-- the words so far have no flag
abbrev pub invariant-loop-place : goal.invariant-loop-place
invariant-loop-place l = AreEmpty l.words l.place
