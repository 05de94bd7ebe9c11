use Rattle.std.proofs.Common.{arith}
use Rattle.falling.proofs.Widths.{widest_all, widest_next}
use Rattle.falling.proofs.limits.widest.Goals as goal

pub loop-number-preserved : goal.loop-number-preserved
loop-number-preserved c = record {
  width = widest_next c.args.net.now c.loop-number.number c.loop-number.width c.max-width.result c.constraint_width.result (omega arith) c.constraint_width.ensures.width
      (omega arith) c.loop-number.invariant.width;
  most = omega arith;
}

pub returns-clause-width : goal.returns-clause-width
returns-clause-width c = widest_all c.args.net.now c.loop-number.number c.loop-number.width (omega arith) c.loop-number.invariant.width
