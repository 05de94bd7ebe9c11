use Rattle.std.proofs.Common.{ap, ◌∙◌}
use Rattle.job_settle.specs.Answers.{bound_of}
use Rattle.itv_base.proofs.Written.{puts_then}
use Rattle.job_settle.proofs.put_bounds.put_bound.Goals as goal

pub returns-in_ok-put_proof-in-Closed : goal.returns-in_ok-put_proof-in-Closed
returns-in_ok-put_proof-in-Closed g c = record {
  puts = rw (c.in-Closed.is, ← c.deref.ensures.value, ← (c.bound_of.ensures.bound ∙ ap bound_of c.in-Closed.is)) (puts_then _ _ _ _ _ _ c.in_ok-put_proof-in-Closed.ensures.puts c.put_number.ensures.puts);
}
