use Rattle.itv_base.proofs.Written.{puts_then}
use Rattle.job_fall.proofs.finding.put_finding.Goals as goal

pub returns-in_ok-write_item-in-Consistent : goal.returns-in_ok-write_item-in-Consistent
returns-in_ok-write_item-in-Consistent g c =
    rw (c.in-Consistent.is, ← c.times.ensures.times) (puts_then _ _ _ _ _ _ c.in_ok-write_item-in-Consistent.ensures.puts c.write_item-in-Consistent.ensures.puts)

pub returns-in-Open : goal.returns-in-Open
returns-in-Open g c = rw c.in-Open.is c.put.ensures.puts
