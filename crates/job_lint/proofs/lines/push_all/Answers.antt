use Rattle.job_lint.proofs.Lining.{line_at}
use Rattle.job_lint.proofs.lines.push_all.Goals as goal

pub loop-line-preserved : goal.loop-line-preserved
loop-line-preserved c =
    line_at c.args.more.now c.loop-line.line-index _ c.args.lines.now.items c.loop-line.lines.items c.push.new.self.items c.loop-line-test.true c.loop-line.invariant c.in_ok-push.ensures.items
