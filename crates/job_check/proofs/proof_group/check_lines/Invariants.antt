use Rattle.cert_checker.specs.Checking.{goal_view}
use Rattle.job_check.proofs.Taking.{IsTaking}
use Rattle.job_check.proofs.proof_group.check_lines.Given as goal

abbrev pub invariant-loop-number : goal.invariant-loop-number
invariant-loop-number l = IsTaking l.net (goal_view l.fn.goal) l.items l.start l.number l.fn.checker.room l.checker
