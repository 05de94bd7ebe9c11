use Rattle.cert_checker.proofs.Walking.{Walks}
use Rattle.cert_checker.proofs.walk.check_walk.Given as goal

abbrev pub invariant-loop-place : goal.invariant-loop-place
invariant-loop-place l = Walks l.net l.chosen.chosen l.fn.from l.fn.to l.names l.place l.at l.sum
