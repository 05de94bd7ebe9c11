use Rattle.job_lint.proofs.Keeping.{finding_order_settles}
use Rattle.job_lint.proofs.Searching.{enough_apart}
use Rattle.job_lint.proofs.apart.find_order.Goals as goal

pub returns-clause-settles : goal.returns-clause-settles
returns-clause-settles c = λ enough.
    rw c.order_by_finding.ensures.order
    (finding_order_settles c.in_ok-found.found (c.in_ok-found.ensures.settles (enough_apart c.args.drawn.now c.args.net.now c.args.budget c.requires.limits c.requires.net enough)))
