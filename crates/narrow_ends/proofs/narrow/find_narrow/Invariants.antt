use Rattle.narrow_ends.proofs.Along.{IsAlong}
use Rattle.narrow_ends.proofs.narrow.find_narrow.Given as goal

-- the ends of the names so far
abbrev pub invariant-loop-name : goal.invariant-loop-name
invariant-loop-name l = IsAlong l.drawn l.fn.extremes.budget l.name-items l.name-index l.extremes l.places l.ends.items l.searches
