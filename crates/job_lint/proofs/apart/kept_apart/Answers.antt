use Rattle.job_lint.proofs.Keeping.{range_kept}
use Rattle.job_lint.proofs.apart.kept_apart.Goals as goal

pub returns-clause-kept : goal.returns-clause-kept
returns-clause-kept c =
    rw c.kept_in.ensures.kept
    (range_kept c.args.search.now.net c.args.row.now.from c.args.row.now.to c.args.range c.in_ok-found.found c.in_ok-reversed.reversed c.in_ok-found.ensures.extent c.in_ok-reversed.ensures.extent)
