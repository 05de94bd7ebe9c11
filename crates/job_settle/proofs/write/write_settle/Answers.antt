use Rattle.std.proofs.lemmas.Result.{err_from_is_err_and}
use Rattle.job_settle.proofs.write.write_settle.Goals as goal

pub returns-in_err-put_found : goal.returns-in_err-put_found
returns-in_err-put_found g c =
    let p = err_from_is_err_and c.from_residual-in_err-put_found.result c.from_residual-in_err-put_found.ensures.1 in
    record { works = rw (p.1, p.2) (c.in_err-put_found.ensures.begins c.args.turns c.in_ok-found.ensures.within) }

pub returns : goal.returns
returns g c = record { works = c.in_ok-put_found.ensures.answers c.args.turns c.in_ok-found.ensures.within }
