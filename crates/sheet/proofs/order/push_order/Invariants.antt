use Rattle.std.proofs.Common.{◌≡◌, ◌-◌, ◌+◌, ◌++◌, map}
use Rattle.std.specs.List.{range_with_len}
use Rattle.sheet.specs.Lanes.{follows_rule}
use Rattle.sheet.proofs.order.push_order.Given as goal

abbrev pub invariant-loop-k : goal.invariant-loop-k
invariant-loop-k l = l.rules.items ≡ l.fn.rules.items ++ map (λ k. follows_rule l.origin k (k + 1) 0) (range_with_len l.span.first (l.k - l.span.first))
