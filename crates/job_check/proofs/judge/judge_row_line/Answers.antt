use Rattle.slack_report.specs.Items.{item_view}
use Rattle.job_check.proofs.Placing.{row_none, row_some}
use Rattle.job_check.proofs.judge.judge_row_line.Goals as goal

pub returns-then-is_row : goal.returns-then-is_row
returns-then-is_row c = record {
  decides =
      row_some c.args.drawn.now c.args.tally c.args.number c.args.row.now (item_view c.args.item.now) c.is_row.result c.requires.row c.is_row.ensures.row c.if-is_row.true c.requires.between
      (c.is_row.ensures.small c.if-is_row.true);
}

pub returns : goal.returns
returns c = record {
  decides = row_none c.args.drawn.now c.args.tally c.args.number c.args.row.now (item_view c.args.item.now) c.is_row.result c.requires.row c.is_row.ensures.row c.if-is_row.false;
}
