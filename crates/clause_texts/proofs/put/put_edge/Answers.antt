use Rattle.std.proofs.lemmas.Result.{err_from_is_err_and}
use Rattle.clause_texts.proofs.Putting.{name_cut, name_puts}
use Rattle.clause_texts.proofs.put.put_edge.Goals as goal

pub returns-in_err-put_number : goal.returns-in_err-put_number
returns-in_err-put_number g c =
    let p = err_from_is_err_and c.from_residual.result c.from_residual.ensures.1 in
    rw p.1 (name_cut c.args.front.now c.args.edge _ _ c.in_err-put_number.ensures)

pub returns : goal.returns
returns g c = name_puts c.args.front.now c.args.edge _ _ _ _ c.in_ok-put_number.ensures c.put_cause.ensures
