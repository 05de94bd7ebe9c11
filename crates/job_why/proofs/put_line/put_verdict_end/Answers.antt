use Rattle.itv_base.proofs.Written.{puts_then}
use Rattle.job_why.proofs.put_line.put_verdict_end.Goals as goal

pub returns : goal.returns
returns g c = puts_then _ _ _ _ _ _ c.in_ok-put_verdict_words.ensures.puts c.put.ensures.puts
