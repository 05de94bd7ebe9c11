use Rattle.std.proofs.lemmas.Result.{err_from_is_err_and}
use Rattle.std.proofs.Common.{refl}
use Rattle.line_words.proofs.Putting.{cut_one, put_two}
use Rattle.job_lint.proofs.put_piece.put_drawn.Goals as goal

pub returns-in_err-put : goal.returns-in_err-put
returns-in_err-put g c =
    let p = err_from_is_err_and c.from_residual.result c.from_residual.ensures.1 in
    record { puts = rw p.1 (cut_one _ _ _ _ _ refl c.in_err-put.ensures.puts) }

pub returns : goal.returns
returns g c = record { puts = put_two _ _ _ _ _ _ c.put_origin.result refl c.in_ok-put.ensures.puts c.put_origin.ensures.puts }
