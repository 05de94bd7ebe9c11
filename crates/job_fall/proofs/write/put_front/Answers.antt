use Rattle.std.proofs.lemmas.Result.{err_from_is_err_and}
use Rattle.itv_base.proofs.Written.{cut_more, cut_then, puts_then}
use Rattle.job_fall.proofs.write.put_front.Goals as goal

pub returns-in_err-put : goal.returns-in_err-put
returns-in_err-put g c =
    let p = err_from_is_err_and c.from_residual.result c.from_residual.ensures.1 in
    rw p.1 (cut_more _ _ _ _ c.in_err-put.ensures.puts)

pub returns-in_err-put_view : goal.returns-in_err-put_view
returns-in_err-put_view g c =
    let p = err_from_is_err_and c.from_residual-in_err-put_view.result c.from_residual-in_err-put_view.ensures.1 in
    rw p.1 (cut_then _ _ _ _ _ c.in_ok-put.ensures.puts (cut_more _ _ _ _ c.in_err-put_view.ensures))

pub returns : goal.returns
returns g c = puts_then _ _ _ _ _ _ c.in_ok-put.ensures.puts (puts_then _ _ _ _ _ _ c.in_ok-put_view.ensures c.put_events.ensures)
