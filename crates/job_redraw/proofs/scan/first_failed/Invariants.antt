use Rattle.std.proofs.Common.{◌≡◌, take}
use Rattle.job_redraw.specs.Failed.{scan_start}
use Rattle.job_redraw.specs.Step.{seen_view, scanned}
use Rattle.job_redraw.proofs.scan.first_failed.Given as goal

-- the first lines are scanned
abbrev pub invariant-loop-k : goal.invariant-loop-k
invariant-loop-k l = seen_view l.seen ≡ scanned scan_start (take l.k l.items)
