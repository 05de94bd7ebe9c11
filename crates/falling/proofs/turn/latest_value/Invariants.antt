use Rattle.falling.proofs.Tried.{IsLatestSoFar}
use Rattle.falling.proofs.turn.latest_value.Given as goal

-- the greatest value of the causes so far
abbrev pub invariant-loop-cause : goal.invariant-loop-cause
invariant-loop-cause l = IsLatestSoFar l.net l.values l.number l.cause l.due.value
