use Rattle.slack_report.specs.Items.{item_view}
use Rattle.job_redraw.specs.Step.{seen_view}
use Rattle.job_redraw.proofs.Scanning.{scan_next}
use Rattle.job_redraw.proofs.scan.first_failed.Goals as goal

pub loop-k-preserved : goal.loop-k-preserved
loop-k-preserved c =
    scan_next c.args.items.now c.loop-k.k (seen_view c.loop-k.seen) (seen_view c.after-seen.result) (item_view c.get-item.result.0) c.loop-k.invariant c.get-item.ensures.item c.after-seen.ensures
