use Rattle.std.proofs.Common.{arith}
use Rattle.falling.proofs.Tried.{side_tried}
use Rattle.falling.proofs.turn.side_line.Goals as goal

pub returns-clause-none : goal.returns-clause-none
returns-clause-none c =
    side_tried c.args.net.now c.args.values.now c.args.number c.cause_count-count.result c.args.side c.requires.look.is_net c.cause_count-count.ensures.count
    (λ k below. c.loop-cause.invariant k (omega arith))
