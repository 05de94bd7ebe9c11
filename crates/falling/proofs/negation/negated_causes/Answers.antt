use Rattle.std.proofs.Common.{arith}
use Rattle.falling.proofs.Collecting.{causes_all, causes_next}
use Rattle.falling.proofs.Widths.{all_seen}
use Rattle.falling.proofs.negation.negated_causes.Goals as goal

pub loop-cause-preserved : goal.loop-cause-preserved
loop-cause-preserved c k at_k =
    causes_next c.args.net.now c.args.number c.loop-cause.cause k c.loop-cause.causes.items c.push.new.self.items c.cause.result c.negated.result at_k
    c.cause.ensures.cause c.negated.ensures c.in_ok-push.ensures.items (c.loop-cause.invariant k at_k)

pub returns : goal.returns
returns c k at_k =
    causes_all c.args.net.now c.args.number c.cause_count-count.result c.loop-cause.cause k c.loop-cause.causes.items c.requires.net c.cause_count-count.ensures.count
    (λ below. omega arith) at_k (c.loop-cause.invariant k at_k)
    (all_seen c.args.net.now c.args.number c.cause_count-count.result c.loop-cause.cause k c.requires.net c.cause_count-count.ensures.count at_k (omega arith))
