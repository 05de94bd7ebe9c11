use Rattle.std.proofs.Common.{◌++◌, ap, append-nil, sym}
use Rattle.itv_base.proofs.Written.{puts_same, puts_then}
use Rattle.slack_report.specs.Entry.{budget, heading}
use Rattle.slack_report.specs.Text.{entry_text}
use Rattle.job_bounds.proofs.write.put_front.Goals as goal

pub returns : goal.returns
returns g c = record {
  puts = puts_same _ _ _ _ c.write_item-2.result (ap (λ text. entry_text heading ++ text) (sym (append-nil (entry_text (budget c.args.budget)))))
      (puts_then _ _ _ _ _ c.write_item-2.result c.in_ok-write_item.ensures.puts c.write_item-2.ensures.puts);
}
