use Rattle.std.proofs.lemmas.Result.{err_from_is_err_and}
use Rattle.std.proofs.Common.{refl}
use Rattle.line_words.proofs.Putting.{cut_one, cut_three, cut_two, put_four}
use Rattle.job_settle.proofs.put_rows.put_found.Goals as goal

pub returns-in_err-put_row : goal.returns-in_err-put_row
returns-in_err-put_row g c =
    let p = err_from_is_err_and c.from_residual.result c.from_residual.ensures.1 in record { puts = rw p.1 (cut_one _ _ _ _ _ refl c.in_err-put_row.ensures.puts) }

pub returns-in_err-put_bound : goal.returns-in_err-put_bound
returns-in_err-put_bound g c =
    let p = err_from_is_err_and c.from_residual-in_err-put_bound.result c.from_residual-in_err-put_bound.ensures.1 in
    record { puts = rw p.1 (cut_two _ _ _ _ _ _ _ refl c.in_ok-put_row.ensures.puts c.in_err-put_bound.ensures.puts) }

pub returns-in_err-put_bound-2 : goal.returns-in_err-put_bound-2
returns-in_err-put_bound-2 g c =
    let p = err_from_is_err_and c.from_residual-in_err-put_bound-2.result c.from_residual-in_err-put_bound-2.ensures.1 in
    record { puts = rw p.1 (cut_three _ _ _ _ _ _ _ _ _ refl c.in_ok-put_row.ensures.puts c.in_ok-put_bound.ensures.puts c.in_err-put_bound-2.ensures.puts) }

pub returns : goal.returns
returns g c = record {
  puts = put_four _ _ _ _ _ _ _ _ _ _ c.put_judged.result refl c.in_ok-put_row.ensures.puts c.in_ok-put_bound.ensures.puts c.in_ok-put_bound-2.ensures.puts c.put_judged.ensures.puts;
}
