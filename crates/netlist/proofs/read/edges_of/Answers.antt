use Rattle.std.proofs.lemmas.Result.{err_from_is_err_and}
use Rattle.serde_json.specs.View.{view}
use Rattle.netlist.proofs.NetlistSteps.{edges-fault, edges-are}
use Rattle.netlist.proofs.read.edges_of.Goals as goal

pub returns-in_err-list : goal.returns-in_err-list
returns-in_err-list c =
    let p = err_from_is_err_and c.from_residual.result c.from_residual.ensures.1 in
    rw (p.1, p.2) (edges-fault (view c.args.tree.now) c.in_err-list.field-0.0 c.in_err-list.ensures)

pub returns : goal.returns
returns c = rw c.in_ok-texts.ensures (edges-are (view c.args.tree.now) _ c.in_ok-list.ensures)
