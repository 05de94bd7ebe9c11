use Rattle.std.proofs.Common.{ap}
use Rattle.slack_report.specs.Items.{item_view}
use Rattle.job_check.specs.Step.Stages.{next_in, current_in}
use Rattle.job_check.proofs.Judging.{bound_some}
use Rattle.job_check.proofs.proof_group.judge_bound.Goals as goal

pub returns-in-Bound-clause-decides : goal.returns-in-Bound-clause-decides
returns-in-Bound-clause-decides c lines current =
    bound_some c.args.drawn.now c.network.result.now (current_in c.args.drawn.now c.args.current.now) (next_in c.args.coming) lines (item_view c.args.item.now) c.in-Bound.which
    c.in-Bound.bound c.args.whole c.proves_bound.result c.network.ensures.network (ap item_view c.in-Bound.is) (c.proves_bound.ensures.proves lines) current c.behind_bound.result (c.is_which.ensures.which.0 c.if-is_which.true) c.if-proves_bound.true
    (c.behind_bound.ensures.stage c.args.drawn.now)
    (c.behind_bound.ensures.fits c.args.drawn.now c.requires.current_row c.requires.coming (c.proves_bound.ensures.times c.if-proves_bound.true))
