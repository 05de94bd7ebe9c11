use Rattle.std.proofs.Common.{◌≡◌, ◌≤◌, ap, length, drop, arith, subst}
use Rattle.std.proofs.Math.ListN.{drop_of_length-le}
use Rattle.event_graph.proofs.EdgesMet.{All-found}
use Rattle.slack_report.specs.Items.{item_view}
use Rattle.right_report.specs.Right.ReportState.{at_end}
use Rattle.drawn_networks.specs.Drawn.{IsRowOf}
use Rattle.job_check.specs.Step.Stages.{Decides}
use Rattle.job_check.proofs.Placing.{end_decides}
use Rattle.job_check.proofs.judge.judge_row.Goals as goal

pub returns-then-number-len : goal.returns-then-number-len
returns-then-number-len c =
    let rows : length c.rows-rows.result.now ≡ length c.args.drawn.now.rows = ap length c.rows-rows.ensures.rows in
    let past : length c.args.drawn.now.rows ≤ c.args.number = omega (arith, rows, c.len.ensures.count, c.if-number-len.true) in
    record {
      decides =
          end_decides c.args.drawn.now c.args.tally c.args.number (drop c.args.number c.args.drawn.now.rows) (item_view c.args.item.now) c.judge_end.result
          (drop_of_length-le c.args.drawn.now.rows past)
          (subst (λ word. Decides c.args.drawn.now (at_end word) (item_view c.args.item.now) c.judge_end.result) c.end_word.ensures.word c.judge_end.ensures.decides);
    }

pub judge_row_line-requires-clause-between : goal.judge_row_line-requires-clause-between
judge_row_line-requires-clause-between c = All-found (IsRowOf c.args.drawn.now.net) c.rows-rows.result.now c.args.number c.get.result.now c.get.ensures.item c.rows-rows.ensures.within
