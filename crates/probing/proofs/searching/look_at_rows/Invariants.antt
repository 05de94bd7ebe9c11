use Rattle.probing.proofs.Looking.{IsLookedTo}
use Rattle.probing.proofs.searching.look_at_rows.Given as goal

-- the rows so far
abbrev pub invariant-loop-number : goal.invariant-loop-number
invariant-loop-number l = IsLookedTo l.net l.rows l.fn.extremes.budget l.fn.extremes l.extremes l.noted l.number l.is_open
