use Rattle.std.proofs.lemmas.Result.{err_from_is_err_and}
use Rattle.redraw.proofs.Pieces.{both_put, edge_is, first_cut}
use Rattle.redraw.proofs.write.put_edge.Goals as goal

pub returns-in_err-put_marks : goal.returns-in_err-put_marks
returns-in_err-put_marks g c =
    let p = err_from_is_err_and c.from_residual.result c.from_residual.ensures.1 in
    rw p.1 (first_cut _ _ _ _ _ (edge_is c.args.from c.args.to c.args.kind c.args.range) c.in_err-put_marks.ensures)

pub returns : goal.returns
returns g c = both_put _ _ _ _ _ _ _ (edge_is c.args.from c.args.to c.args.kind c.args.range) c.in_ok-put_marks.ensures c.put_edge_back.ensures
