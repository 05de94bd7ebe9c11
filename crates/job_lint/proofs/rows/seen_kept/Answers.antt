use Rattle.job_lint.specs.Step.Keeping.{extent_of}
use Rattle.job_lint.proofs.Keeping.{extent_seen, range_kept, range_settles, seen_settles}
use Rattle.job_lint.proofs.rows.seen_kept.Goals as goal

pub returns-clause-kept : goal.returns-clause-kept
returns-clause-kept c = λ net from to first other.
    rw (c.kept_in.ensures.kept, c.extent_of.ensures.extent, c.extent_of-2.ensures.extent)
    (range_kept net from to c.args.range (extent_of c.args.greatest.now) (extent_of c.args.least.now) (extent_seen net from to c.args.greatest.now first) (extent_seen net to from c.args.least.now other))

pub returns-clause-settles : goal.returns-clause-settles
returns-clause-settles c = λ first other is.
    range_settles c.args.range (extent_of c.args.greatest.now) (extent_of c.args.least.now) (seen_settles c.args.greatest.now first) (seen_settles c.args.least.now other)
    (rw (c.kept_in.ensures.kept, c.extent_of.ensures.extent, c.extent_of-2.ensures.extent) at is)
