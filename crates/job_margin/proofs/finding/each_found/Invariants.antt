use Rattle.std.proofs.Common.{take}
use Rattle.std.specs.List.{AllZip}
use Rattle.job_margin.specs.Margin.{IsNumberFound}
use Rattle.job_margin.proofs.finding.each_found.Given as goal

-- the numbers so far
abbrev pub invariant-loop-k : goal.invariant-loop-k
invariant-loop-k l = AllZip (IsNumberFound l.drawn l.budget) (take l.k l.seen) l.found.items
