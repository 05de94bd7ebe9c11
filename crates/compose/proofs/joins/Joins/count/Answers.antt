use Rattle.std.proofs.Common.{ap, arith}
use Rattle.compose.specs.declared.joins.PinJoins.{PinJoins}
use Rattle.compose.proofs.JoinLists.{length-joins-more}
use Rattle.compose.proofs.joins.Joins.count.Goals as goal

pub loop-pin-preserved : goal.loop-pin-preserved
loop-pin-preserved c =
    let more = length-joins-more c.deref-pin-items.result.now c.loop-pin.pin-index c.pin-item.result c.loop-pin-test.true in
    let read = ap (λ (pin : PinJoins). pin.marks) c.pin-item.is in
    record {
      count = omega (arith, more, read, c.loop-pin.invariant.count, c.from-count.ensures);
      within = omega (arith, c.loop-pin.invariant.within, c.from-count.ensures);
    }
