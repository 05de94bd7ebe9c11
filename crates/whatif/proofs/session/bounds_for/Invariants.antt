use Rattle.std.proofs.Common.{◌≡◌, All, map, take}
use Rattle.whatif.specs.Session.{HasPlaces, KeptBound, both_ways}
use Rattle.whatif.proofs.session.bounds_for.Given as goal

-- two bounds for each pair so far
abbrev pub invariant-loop-k : goal.invariant-loop-k
invariant-loop-k l = (map (λ (b : KeptBound). b.pair) l.bounds.items ≡ both_ways (take l.k l.pairs)) × All (HasPlaces l.events) l.bounds.items
