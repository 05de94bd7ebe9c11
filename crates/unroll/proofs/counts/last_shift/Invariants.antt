use Rattle.std.proofs.Common.{◌≡◌, ℕ, nat_le, take}
use Rattle.std.specs.List.{list_all}
use Rattle.unroll.proofs.counts.last_shift.Given as goal

abbrev pub invariant-loop-source : goal.invariant-loop-source
invariant-loop-source l = (cycle : ℕ) → list_all (λ source. nat_le source.shift cycle) (take l.source-index l.sources) ≡ nat_le l.last cycle
