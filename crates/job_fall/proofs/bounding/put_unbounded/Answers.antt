use Rattle.std.proofs.lemmas.Result.{err_from_is_err_and}
use Rattle.itv_base.proofs.Written.{cut_more, cut_then, puts_then}
use Rattle.job_fall.proofs.bounding.put_unbounded.Goals as goal

pub returns-in_err-write_item-2 : goal.returns-in_err-write_item-2
returns-in_err-write_item-2 g c =
    let p = err_from_is_err_and c.from_residual-in_err-write_item-2.result c.from_residual-in_err-write_item-2.ensures.1 in
    rw p.1 (cut_then _ _ _ _ _ c.in_ok-write_item.ensures.puts (cut_more _ _ _ _ c.in_err-write_item-2.ensures.puts))

pub returns : goal.returns
returns g c = puts_then _ _ _ _ _ _ c.in_ok-write_item.ensures.puts (puts_then _ _ _ _ _ _ c.in_ok-write_item-2.ensures.puts c.write_item-3.ensures.puts)
