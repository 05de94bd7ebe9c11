use Rattle.std.proofs.Common.{◌∷◌}
use Rattle.std.proofs.lemmas.Result.{err_from_is_err_and}
use Rattle.itv_base.proofs.Written.{cut_more, puts_then}
use Rattle.clause_texts.specs.Text.{basis_word}
use Rattle.clause_texts.proofs.put.put_step.Goals as goal

pub returns-in_err-put_number : goal.returns-in_err-put_number
returns-in_err-put_number g c =
    let p = err_from_is_err_and c.from_residual.result c.from_residual.ensures.1 in
    rw p.1 (cut_more _ _ _ (47 ∷ basis_word c.args.step.basis) c.in_err-put_number.ensures)

pub returns : goal.returns
returns g c = puts_then _ _ _ _ _ _ c.in_ok-put_number.ensures c.put_basis.ensures
