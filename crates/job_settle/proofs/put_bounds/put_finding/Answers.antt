use Rattle.itv_base.proofs.Written.{puts_then}
use Rattle.job_settle.proofs.put_bounds.put_finding.Goals as goal

pub returns-in_ok-write_item-in-Consistent : goal.returns-in_ok-write_item-in-Consistent
returns-in_ok-write_item-in-Consistent g c = record {
  puts = rw (c.in-Consistent.is, ← c.deref.ensures.value) (puts_then _ _ _ _ _ _ c.in_ok-write_item-in-Consistent.ensures.puts c.write_item-in-Consistent.ensures.puts);
}

pub returns-in_ok-put_proof-in-Inconsistent : goal.returns-in_ok-put_proof-in-Inconsistent
returns-in_ok-put_proof-in-Inconsistent g c = record {
  puts = rw c.in-Inconsistent.is (puts_then _ _ _ _ _ _ c.in_ok-put_proof-in-Inconsistent.ensures.puts c.write_item-in-Inconsistent.ensures.puts);
}

pub returns-in-Open : goal.returns-in-Open
returns-in-Open g c = record { puts = rw c.in-Open.is c.put.ensures.puts }
