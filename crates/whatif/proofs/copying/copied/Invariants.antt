use Rattle.std.proofs.Common.{◌≡◌, take}
use Rattle.whatif.proofs.copying.copied.Given as goal

-- the constraints so far
abbrev pub invariant-loop-number : goal.invariant-loop-number
invariant-loop-number l = l.copy ≡ record l.net { constraints = take l.number l.net.constraints }
