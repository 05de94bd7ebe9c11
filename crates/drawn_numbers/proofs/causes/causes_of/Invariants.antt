use Rattle.std.proofs.Common.{◌≡◌}
use Rattle.drawn_numbers.specs.Numbers.{causes_before}
use Rattle.drawn_numbers.proofs.causes.causes_of.Given as goal

-- the causes of the constraints so far
abbrev pub invariant-loop-constraint : goal.invariant-loop-constraint
invariant-loop-constraint l = l.causes.items ≡ causes_before l.drawn l.number l.constraint
