use Rattle.std.proofs.Common.{◌≡◌, ◌+◌, drop}
use Rattle.itv_base.specs.Reading.{walk}
use Rattle.compose.specs.Nets.{same_count}
use Rattle.compose.proofs.nets.check_counts.Given as goal

abbrev pub invariant-loop-k : goal.invariant-loop-k
invariant-loop-k l = walk (same_count l.driver l.n) (l.k + 1) tt (drop l.k l.others) ≡ walk (same_count l.driver l.n) 1 tt l.others
