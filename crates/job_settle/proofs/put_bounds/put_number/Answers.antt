use Rattle.itv_base.proofs.Written.{puts_then}
use Rattle.job_settle.proofs.put_bounds.put_number.Goals as goal

pub returns : goal.returns
returns g c = record { puts = puts_then _ _ _ _ _ _ c.in_ok-write_item.ensures.puts c.write_item-2.ensures.puts }
