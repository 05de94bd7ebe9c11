use Rattle.std.proofs.lemmas.Result.{err_from_is_err_and}
use Rattle.itv_base.proofs.Written.{cut_more, puts_then}
use Rattle.job_why.proofs.put_line.put_end.Goals as goal

pub returns-in_err-put_by : goal.returns-in_err-put_by
returns-in_err-put_by g c =
    let p = err_from_is_err_and c.from_residual.result c.from_residual.ensures.1 in
    rw p.1 (cut_more _ _ _ _ c.in_err-put_by.ensures.puts)

pub returns : goal.returns
returns g c = puts_then _ _ _ _ _ _ c.in_ok-put_by.ensures.puts c.put.ensures.puts
