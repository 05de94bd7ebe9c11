use Rattle.std.proofs.Common.{◌≡◌, ◌++◌, drop}
use Rattle.job_measure.specs.Lines.{headed}
use Rattle.job_measure.proofs.headed.headed_in.Given as goal

-- the constraints so far, before those that are left
abbrev pub invariant-loop-number : goal.invariant-loop-number
invariant-loop-number l =
    l.all.items ++ headed l.drawn (drop l.number l.drawn.net.constraints) (drop l.number l.drawn.origins) ≡ headed l.drawn l.drawn.net.constraints l.drawn.origins
