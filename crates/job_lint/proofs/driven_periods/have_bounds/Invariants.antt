use Rattle.extremes.specs.Ready.{IsReady}
use Rattle.job_lint.proofs.driven_periods.have_bounds.Given as goal

-- the search stays ready
abbrev pub invariant-loop-n : goal.invariant-loop-n
invariant-loop-n l = IsReady l.net l.extremes
