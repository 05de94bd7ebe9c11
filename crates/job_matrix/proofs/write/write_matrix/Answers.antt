use Rattle.std.proofs.lemmas.Result.{err_from_is_err_and}
use Rattle.job_matrix.proofs.Putting.{inconsistent_cut, matrix_cut, matrix_put}
use Rattle.job_matrix.proofs.write.write_matrix.Goals as goal

pub returns-in_err-put_matrix-in-Ok : goal.returns-in_err-put_matrix-in-Ok
returns-in_err-put_matrix-in-Ok g c =
    let p = err_from_is_err_and c.from_residual-in_err-put_matrix-in-Ok.result c.from_residual-in_err-put_matrix-in-Ok.ensures.1 in
    record { works = rw (p.1, p.2) (matrix_cut c.args.drawn.now _ _ _ _ c.network.ensures.network c.in-Ok.ensures.matrix c.in-Ok.ensures.times c.in_err-put_matrix-in-Ok.ensures) }

pub returns-in-Ok : goal.returns-in-Ok
returns-in-Ok g c =
    record { works = matrix_put c.args.drawn.now _ _ _ _ c.network.ensures.network c.in-Ok.ensures.matrix c.in-Ok.ensures.times c.in_ok-put_matrix-in-Ok.ensures }

pub returns-in_err-put_inconsistent-in-Err-Loop : goal.returns-in_err-put_inconsistent-in-Err-Loop
returns-in_err-put_inconsistent-in-Err-Loop g c =
    let p = err_from_is_err_and c.from_residual-in_err-put_inconsistent-in-Err-Loop.result c.from_residual-in_err-put_inconsistent-in-Err-Loop.ensures.1 in
    record { works = rw (p.1, p.2) (inconsistent_cut c.args.drawn.now _ _ _ c.network.ensures.network (rw c.in-Err-Loop.field-0-is at c.in-Err-Loop.ensures.fault).1 c.in_err-put_inconsistent-in-Err-Loop.ensures) }
