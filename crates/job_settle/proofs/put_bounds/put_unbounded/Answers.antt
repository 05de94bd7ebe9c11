use Rattle.std.proofs.lemmas.Result.{err_from_is_err_and}
use Rattle.std.proofs.Common.{refl}
use Rattle.line_words.proofs.Putting.{cut_two, put_three}
use Rattle.job_settle.proofs.put_bounds.put_unbounded.Goals as goal

pub returns-in_err-write_item-2 : goal.returns-in_err-write_item-2
returns-in_err-write_item-2 g c =
    let p = err_from_is_err_and c.from_residual-in_err-write_item-2.result c.from_residual-in_err-write_item-2.ensures.1 in
    record { puts = rw p.1 (cut_two _ _ _ _ _ _ _ refl c.in_ok-write_item.ensures.puts c.in_err-write_item-2.ensures.puts) }

pub returns : goal.returns
returns g c = record { puts = put_three _ _ _ _ _ _ _ _ c.write_item-3.result refl c.in_ok-write_item.ensures.puts c.in_ok-write_item-2.ensures.puts c.write_item-3.ensures.puts }
