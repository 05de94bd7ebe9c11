use Rattle.job_check.proofs.proof_group.judge_behind.Goals as goal

pub returns-in-Bound-clause-decides : goal.returns-in-Bound-clause-decides
returns-in-Bound-clause-decides c = rw c.in-Bound.is c.judge_bound.ensures.decides
