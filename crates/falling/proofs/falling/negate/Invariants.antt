use Rattle.std.proofs.Common.{neg_ℤ, pos}
use Rattle.falling.proofs.Turning.{IsTurnedTo}
use Rattle.falling.proofs.falling.negate.Given as goal

-- the times so far are negated
abbrev pub invariant-loop-event : goal.invariant-loop-event
invariant-loop-event l = IsTurnedTo neg_ℤ (pos 0) l.event l.fn.times l.times
