use Rattle.std.proofs.Common.{◌<◌, arith}
use Rattle.falling.proofs.Widths.{there_below, width_all, width_next}
use Rattle.falling.proofs.limits.constraint_width.Goals as goal

pub returns-clause-width : goal.returns-clause-width
returns-clause-width c k at_k =
    width_all c.args.net.now c.args.number c.cause_count-count.result c.loop-cause.cause c.loop-cause.width k c.requires.net c.cause_count-count.ensures.count at_k (omega arith)
    (c.loop-cause.invariant.width k at_k)

pub loop-cause-preserved : goal.loop-cause-preserved
loop-cause-preserved c =
    let below : c.loop-cause.cause < c.max-cause-end.result = c.loop-cause-test.true in
    record {
      width = λ k at_k.
          width_next c.args.net.now c.args.number c.loop-cause.cause k c.loop-cause.width c.max-width.result c.cause_width.result at_k
          (there_below c.args.net.now c.args.number c.cause_count-count.result c.loop-cause.cause (omega arith) c.cause_count-count.ensures.each c.cause_count-count.ensures.first)
          c.cause_width.ensures.width (omega arith) (c.loop-cause.invariant.width k at_k);
      most = omega arith;
    }
