use Rattle.std.proofs.Common.{false, not, arith}
use Rattle.falling.proofs.Turning.{turned_all}
use Rattle.falling.proofs.falling.complement.Goals as goal

pub returns : goal.returns
returns c = turned_all not false c.loop-event.event c.args.flags.now c.loop-event.flags (omega arith) c.loop-event.invariant
