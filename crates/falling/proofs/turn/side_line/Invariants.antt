use Rattle.std.proofs.Common.{◌<◌, ℕ}
use Rattle.falling.specs.declared.line.Reason.TheVariants.{ByEdge}
use Rattle.falling.specs.Step.Turns.{IsTried}
use Rattle.falling.proofs.turn.side_line.Given as goal

-- the causes so far allow no line
abbrev pub invariant-loop-cause : goal.invariant-loop-cause
invariant-loop-cause l = (k : ℕ) → k < l.cause → IsTried l.net l.values (ByEdge (record { constraint = l.number; cause = k; side = l.side }))
