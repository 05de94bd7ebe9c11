use Rattle.job_lint.proofs.finding.find_after.Goals as goal

pub contradicts_by_order-requires-clause-none : goal.contradicts_by_order-requires-clause-none
contradicts_by_order-requires-clause-none c = rw c.in-Inconsistent.is at c.requires.finding

pub returns-in_ok-by-in-Inconsistent-clause-found : goal.returns-in_ok-by-in-Inconsistent-clause-found
returns-in_ok-by-in-Inconsistent-clause-found c = (rw c.in-Inconsistent.is at c.requires.finding, c.in_ok-by-in-Inconsistent.ensures.order)
