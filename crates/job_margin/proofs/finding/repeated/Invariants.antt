use Rattle.std.proofs.Common.{◌≡◌, replicate}
use Rattle.job_margin.specs.Step.{found_of}
use Rattle.job_margin.proofs.finding.repeated.Given as goal

-- so many of them
abbrev pub invariant-loop-k : goal.invariant-loop-k
invariant-loop-k l = l.found.items ≡ replicate l._k (found_of l.span)
