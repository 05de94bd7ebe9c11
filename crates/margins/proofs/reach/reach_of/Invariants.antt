use Rattle.std.proofs.Common.{◌≡◌, drop}
use Rattle.margins.specs.Reaching.{any_reach, reach_along}
use Rattle.margins.proofs.reach.reach_of.Given as goal

-- the reach of what is left of the constraints
abbrev pub invariant-loop-constraint : goal.invariant-loop-constraint
invariant-loop-constraint l =
    reach_along l.drawn l.number l.side l.reach (drop l.constraint l.drawn.net.constraints) (drop l.constraint l.drawn.origins)
    ≡ reach_along l.drawn l.number l.side any_reach l.drawn.net.constraints l.drawn.origins
