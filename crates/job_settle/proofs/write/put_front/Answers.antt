use Rattle.std.proofs.lemmas.Result.{err_from_is_err_and}
use Rattle.itv_base.proofs.Written.{cut_more, puts_then}
use Rattle.job_settle.proofs.write.put_front.Goals as goal

pub returns-in_err-put : goal.returns-in_err-put
returns-in_err-put g c = let p = err_from_is_err_and c.from_residual.result c.from_residual.ensures.1 in record { puts = rw p.1 (cut_more _ _ _ _ c.in_err-put.ensures.puts) }

pub returns : goal.returns
returns g c = record { puts = puts_then _ _ _ _ _ _ c.in_ok-put.ensures.puts c.put_events.ensures }
