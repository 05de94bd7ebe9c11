use Rattle.std.proofs.lemmas.Result.{err_from_is_err_and}
use Rattle.redraw.proofs.Pieces.{both_put, first_cut, name_is}
use Rattle.redraw.proofs.write.put_name.Goals as goal

pub returns-in_err-put_bytes : goal.returns-in_err-put_bytes
returns-in_err-put_bytes g c =
    let p = err_from_is_err_and c.from_residual.result c.from_residual.ensures.1 in
    rw p.1 (first_cut _ _ _ _ _ (name_is _ _ c.args.name.mark c.args.name.cycle c.as_bytes.ensures.value) c.in_err-put_bytes.ensures)

pub returns : goal.returns
returns g c = both_put _ _ _ _ _ _ _ (name_is _ _ c.args.name.mark c.args.name.cycle c.as_bytes.ensures.value) c.in_ok-put_bytes.ensures c.put_mark_and_cycle.ensures
