use Rattle.std.proofs.Common.{neg_ℤ, pos, arith}
use Rattle.falling.proofs.Turning.{turned_all}
use Rattle.falling.proofs.falling.negate.Goals as goal

pub returns : goal.returns
returns c = turned_all neg_ℤ (pos 0) c.loop-event.event c.args.times.now c.loop-event.times (omega arith) c.loop-event.invariant
