use Rattle.slack_report.specs.Items.{item_view}
use Rattle.job_check.specs.Step.Stages.{at_of}
use Rattle.job_check.proofs.Leading.{line_steps, line_wrong}
use Rattle.job_check.proofs.walk.step_line.Goals as goal

pub returns-in-Some : goal.returns-in-Some
returns-in-Some c = record {
  steps =
      line_steps c.args.drawn.now c.args.items.now (at_of c.args.drawn.now c.args.stage.now) c.args.start (item_view c.get-item.result.0) c.get-item.ensures.item c.in-Some.next
      c.in-Some.ensures.decides;
}

pub returns-in-None : goal.returns-in-None
returns-in-None c = record {
  steps =
      line_wrong c.args.drawn.now c.args.items.now (at_of c.args.drawn.now c.args.stage.now) c.args.start (item_view c.get-item.result.0) c.get-item.ensures.item
      c.in-None.ensures.decides;
}
