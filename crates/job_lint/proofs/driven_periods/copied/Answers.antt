use Rattle.job_lint.proofs.Copying.{same_events}
use Rattle.job_lint.proofs.driven_periods.copied.Goals as goal

pub loop-number-preserved : goal.loop-number-preserved
loop-number-preserved c =
    same_events c.args.net.now.events c.loop-number.number c.args.net.now.constraints c.loop-number.copy c.push_copy.new.self c.loop-number.invariant c.in_ok-push_copy.ensures.added
