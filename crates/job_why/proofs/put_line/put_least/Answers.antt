use Rattle.std.proofs.lemmas.Result.{err_from_is_err_and}
use Rattle.std.proofs.Common.{refl}
use Rattle.line_words.proofs.Putting.{cut_one, put_two}
use Rattle.job_why.proofs.put_line.put_least.Goals as goal

pub returns-in_err-put : goal.returns-in_err-put
returns-in_err-put g c =
    let p = err_from_is_err_and c.from_residual.result c.from_residual.ensures.1 in
    rw p.1 (cut_one _ _ _ _ _ refl c.in_err-put.ensures.puts)

pub returns : goal.returns
returns g c = put_two _ _ _ _ _ _ c.put_bound_words.result refl c.in_ok-put.ensures.puts c.put_bound_words.ensures.puts
