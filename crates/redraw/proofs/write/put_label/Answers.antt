use Rattle.std.proofs.Common.{refl}
use Rattle.std.proofs.lemmas.Result.{err_from_is_err_and}
use Rattle.redraw.proofs.Pieces.{both_put, first_cut}
use Rattle.redraw.proofs.write.put_label.Goals as goal

pub returns-in_err-write_label : goal.returns-in_err-write_label
returns-in_err-write_label g c =
    let p = err_from_is_err_and c.from_residual.result c.from_residual.ensures.1 in
    rw p.1 (first_cut _ _ _ _ _ refl c.in_err-write_label.ensures.puts)

pub returns : goal.returns
returns g c = both_put _ _ _ _ _ _ _ refl c.in_ok-write_label.ensures.puts c.put.ensures.puts
