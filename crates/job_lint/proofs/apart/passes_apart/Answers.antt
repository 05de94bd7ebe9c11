use Rattle.std.proofs.Common.{subst}
use Rattle.event_graph.specs.Network.{Net}
use Rattle.job_lint.specs.Step.Keeping.{KeepsRange}
use Rattle.job_lint.proofs.Keeping.{kept_order_settles, passes_by_kept}
use Rattle.job_lint.proofs.Searching.{enough_apart}
use Rattle.job_lint.proofs.apart.passes_apart.Goals as goal

pub returns-clause-order : goal.returns-clause-order
returns-clause-order c =
    rw c.order_by_kept.ensures.order
    (passes_by_kept c.args.drawn.now c.args.row.now c.args.range c.in_ok-kept.kept c.requires.met
    (subst (λ (n : Net). KeepsRange n c.args.row.now.from c.args.row.now.to c.args.range c.in_ok-kept.kept) c.requires.search.net c.in_ok-kept.ensures.kept))

pub returns-clause-settles : goal.returns-clause-settles
returns-clause-settles c = λ enough.
    rw c.order_by_kept.ensures.order
    (kept_order_settles c.in_ok-kept.kept
    (c.in_ok-kept.ensures.settles (enough_apart c.args.drawn.now c.args.search.now.net c.args.search.now.extremes.budget c.requires.limits c.requires.search.net enough)))
