use Rattle.job_measure.proofs.Gathering.{cause_more}
use Rattle.job_measure.proofs.rule.causes_of.Goals as goal

pub loop-k-preserved : goal.loop-k-preserved
loop-k-preserved c =
    cause_more c.args.net.now c.args.number c.loop-k.k c.cause.result c.loop-k.causes.items c.push.new.self.items c.cause.ensures.cause c.loop-k.invariant c.in_ok-push.ensures.items
