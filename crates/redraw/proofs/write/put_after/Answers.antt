use Rattle.std.proofs.Common.{refl}
use Rattle.std.proofs.lemmas.Result.{err_from_is_err_and}
use Rattle.redraw.proofs.Pieces.{both_put, first_cut}
use Rattle.redraw.proofs.write.put_after.Goals as goal

pub returns-in_err-put : goal.returns-in_err-put
returns-in_err-put g c =
    let p = err_from_is_err_and c.from_residual.result c.from_residual.ensures.1 in
    rw p.1 (first_cut _ _ _ _ _ refl c.in_err-put.ensures.puts)

pub returns : goal.returns
returns g c = both_put _ _ _ _ _ _ _ refl c.in_ok-put.ensures.puts c.put_byte.ensures
