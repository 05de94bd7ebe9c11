use Rattle.redraw.proofs.Stands.{IsUp}
use Rattle.redraw.proofs.standing.stand_up.Given as goal

-- the first events stand
abbrev pub invariant-loop-k : goal.invariant-loop-k
invariant-loop-k l = IsUp l.timed l.stands l.k l.last l.before
