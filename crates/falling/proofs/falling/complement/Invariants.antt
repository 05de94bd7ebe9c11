use Rattle.std.proofs.Common.{false, not}
use Rattle.falling.proofs.Turning.{IsTurnedTo}
use Rattle.falling.proofs.falling.complement.Given as goal

-- the flags so far are turned
abbrev pub invariant-loop-event : goal.invariant-loop-event
invariant-loop-event l = IsTurnedTo not false l.event l.fn.flags l.flags
