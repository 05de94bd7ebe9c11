use Rattle.std.proofs.Common.{ap, length, ◌∙◌, ◌++◌}
use Rattle.itv_base.proofs.Written.{puts_same, puts_then}
use Rattle.slack_report.specs.Entry.{rows}
use Rattle.slack_report.specs.Text.{entry_text}
use Rattle.job_settle.specs.Text.{rows_text}
use Rattle.job_settle.proofs.put_rows.put_rows.Goals as goal

pub returns : goal.returns
returns g c =
    let others = rows_text c.args.drawn.now c.args.cert 0 c.args.drawn.now.rows c.args.found.now in
    record {
      puts = puts_same _ _ _ _ c.put_each.result (ap (λ n. entry_text (rows n) ++ others) (c.len-count.ensures.count ∙ ap length c.rows.ensures.rows))
          (puts_then _ _ _ _ _ _ c.in_ok-write_item.ensures.puts c.put_each.ensures.puts);
    }
