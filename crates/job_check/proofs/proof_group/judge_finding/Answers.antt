use Rattle.std.proofs.Common.{ap}
use Rattle.slack_report.specs.Items.{item_view}
use Rattle.job_check.proofs.Judging.{finding_none, finding_some}
use Rattle.job_check.proofs.proof_group.judge_finding.Goals as goal

pub returns-then-proves_finding-clause-decides : goal.returns-then-proves_finding-clause-decides
returns-then-proves_finding-clause-decides c lines current =
    finding_some c.args.drawn.now c.network.result.now c.args.number lines (item_view c.args.item.now) c.in-Finding.word c.args.whole c.proves_finding.result c.network.ensures.network
    (ap item_view c.in-Finding.is) (c.proves_finding.ensures.proves lines) current c.behind_finding.result c.if-proves_finding.true (c.behind_finding.ensures.stage c.args.drawn.now)
    (c.behind_finding.ensures.fits c.args.drawn.now)

pub returns-else-proves_finding-clause-decides : goal.returns-else-proves_finding-clause-decides
returns-else-proves_finding-clause-decides c lines current =
    finding_none c.args.drawn.now c.network.result.now c.args.number lines (item_view c.args.item.now) c.in-Finding.word c.args.whole c.proves_finding.result c.network.ensures.network
    (ap item_view c.in-Finding.is) (c.proves_finding.ensures.proves lines) current c.if-proves_finding.false
