use Rattle.std.proofs.Common.{◌≡◌, take}
use Rattle.moves.specs.Step.{lent}
use Rattle.job_margin.specs.Step.{numbers_in_seen}
use Rattle.job_margin.proofs.finding.lent_numbers.Given as goal

-- the numbers so far
abbrev pub invariant-loop-k : goal.invariant-loop-k
invariant-loop-k l = lent l.numbers.items ≡ numbers_in_seen (take l.k l.seen)
