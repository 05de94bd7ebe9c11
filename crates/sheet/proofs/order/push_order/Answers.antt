use Rattle.std.proofs.Common.{◌≡◌, ◌+◌, ◌-◌, arith}
use Rattle.std.proofs.lemmas.List.{append_assoc}
use Rattle.std.proofs.lemmas.List.FromFn.{map-range_with_len_more}
use Rattle.sheet.specs.Lanes.{follows_rule}
use Rattle.sheet.proofs.order.push_order.Goals as goal

pub loop-k-preserved : goal.loop-k-preserved
loop-k-preserved c =
    let first = c.args.span.first in
    let one_more : c.loop-k.k + 1 - first ≡ (c.loop-k.k - first) + 1 = omega arith in
    rw (c.in_ok-push.ensures.items, c.in_ok-follows.ensures, one_more, map-range_with_len_more (λ k. follows_rule c.args.origin k (k + 1) 0) first (c.loop-k.k - first) c.loop-k.k (omega arith), c.loop-k.invariant, append_assoc)
