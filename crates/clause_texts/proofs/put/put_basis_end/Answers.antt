use Rattle.std.proofs.lemmas.Result.{err_from_is_err_and}
use Rattle.itv_base.proofs.Written.{cut_more, puts_then}
use Rattle.clause_texts.proofs.put.put_basis_end.Goals as goal

pub returns-in_err-put_basis : goal.returns-in_err-put_basis
returns-in_err-put_basis g c =
    let p = err_from_is_err_and c.from_residual.result c.from_residual.ensures.1 in
    rw p.1 (cut_more _ _ _ _ c.in_err-put_basis.ensures)

pub returns : goal.returns
returns g c = puts_then _ _ _ _ _ _ c.in_ok-put_basis.ensures c.put.ensures.puts
