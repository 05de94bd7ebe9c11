use Rattle.std.proofs.Common.{◌≡◌, ◌++◌}
use Rattle.drawn_numbers.specs.Numbers.{causes_among, draws}
use Rattle.drawn_numbers.proofs.causes.add_causes.Given as goal

-- the causes so far
abbrev pub invariant-loop-k : goal.invariant-loop-k
invariant-loop-k l = l.causes.items ≡ l.fn.causes.items ++ causes_among (draws l.number l.part) l.constraint l.origins l.k
