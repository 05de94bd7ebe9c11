use Rattle.std.proofs.Common.{◌≡◌}
use Rattle.explanations.proofs.Wider.{front_apart}
use Rattle.explanations.proofs.apart.network_apart.Given as goal

-- the constraints so far
abbrev pub invariant-loop-number : goal.invariant-loop-number
invariant-loop-number l = l.apart ≡ front_apart l.net l.origins l.number
