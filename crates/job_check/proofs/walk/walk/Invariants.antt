use Rattle.std.proofs.Common.{◌-◌, length}
use Rattle.job_check.proofs.Leading.{IsWalking}
use Rattle.job_check.proofs.walk.walk.Given as goal

abbrev pub invariant-loop-start : goal.invariant-loop-start
invariant-loop-start l = IsWalking l.drawn l.items l.stage l.start l.checker l.work

abbrev pub decreases-loop-start : goal.decreases-loop-start
decreases-loop-start l = length l.items - l.start
