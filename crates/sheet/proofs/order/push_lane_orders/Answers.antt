use Rattle.std.proofs.Common.{ap, length, arith}
use Rattle.std.proofs.lemmas.List.{append_assoc}
use Rattle.sheet.proofs.NumberedLanes.{length-spans_of, numbered-read}
use Rattle.sheet.proofs.order.push_lane_orders.Goals as goal

pub get-requires : goal.get-requires
get-requires c = omega (arith, ap length c.requires.spans, length-spans_of c.args.lanes.now)

pub loop-k-preserved : goal.loop-k-preserved
loop-k-preserved c =
    let at = numbered-read c.args.lanes.now c.loop-k.k c.get.result.now c.args.spans.now _ c.get.ensures.lane c.requires.spans in
    let now = rw at at c.loop-k.invariant in
    rw (c.in_ok-push_lane_order.ensures, append_assoc) now
