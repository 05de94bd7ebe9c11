use Rattle.std.proofs.Common.{ap, ◌++◌}
use Rattle.itv_base.proofs.Written.{puts_same, puts_then}
use Rattle.slack_report.specs.Entry.{bound}
use Rattle.slack_report.specs.Text.{entry_text}
use Rattle.job_why.specs.Text.{behind_text}
use Rattle.job_why.proofs.put_bounds.put_bound.Goals as goal

pub returns : goal.returns
returns g c =
    let others = behind_text (g.N.Notes.noted c.args.notes.now) c.args.drawn.now c.args.which c.args.found.now in
    record {
      puts = puts_same _ _ _ _ c.put_behind.result (ap (λ b. entry_text (bound c.args.which b) ++ others) c.bound-bound.ensures.bound)
          (puts_then _ _ _ _ _ _ c.in_ok-write_item.ensures.puts c.put_behind.ensures);
    }
