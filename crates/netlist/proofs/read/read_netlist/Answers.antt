use Rattle.std.proofs.lemmas.Result.{err_from_is_err_and}
use Rattle.serde_json.specs.View.{view}
use Rattle.netlist.proofs.NetlistSteps.{version-fault, cycles-fault, all_parts-fault, all_nets-fault, all_wires-fault, all_edges-fault, netlist-ok}
use Rattle.netlist.proofs.WholeNetlists.{netlist_whole}
use Rattle.netlist.proofs.read.read_netlist.Goals as goal

pub returns-in_err-version : goal.returns-in_err-version
returns-in_err-version c =
    let p = err_from_is_err_and c.from_residual.result c.from_residual.ensures.1 in
    rw (p.1, p.2) (record { answer = version-fault (view c.args.tree.now) c.in_err-version.field-0.0 c.in_err-version.ensures })

pub returns-in_err-cycles : goal.returns-in_err-cycles
returns-in_err-cycles c =
    let p = err_from_is_err_and c.from_residual-in_err-cycles.result c.from_residual-in_err-cycles.ensures.1 in
    rw (p.1, p.2) (record { answer = cycles-fault (view c.args.tree.now) _ c.in_ok-version.ensures c.in_err-cycles.field-0.0 c.in_err-cycles.ensures })

pub returns-in_err-parts : goal.returns-in_err-parts
returns-in_err-parts c =
    let p = err_from_is_err_and c.from_residual-in_err-parts.result c.from_residual-in_err-parts.ensures.1 in
    rw (p.1, p.2) (record { answer = all_parts-fault (view c.args.tree.now) _ c.in_ok-version.ensures _ c.in_ok-cycles.ensures c.in_err-parts.field-0.0 c.in_err-parts.ensures.parts })

pub returns-in_err-nets : goal.returns-in_err-nets
returns-in_err-nets c =
    let p = err_from_is_err_and c.from_residual-in_err-nets.result c.from_residual-in_err-nets.ensures.1 in
    rw (p.1, p.2) (record { answer = all_nets-fault (view c.args.tree.now) _ c.in_ok-version.ensures _ c.in_ok-cycles.ensures _ c.in_ok-parts.ensures.parts c.in_err-nets.field-0.0 c.in_err-nets.ensures })

pub returns-in_err-wires : goal.returns-in_err-wires
returns-in_err-wires c =
    let p = err_from_is_err_and c.from_residual-in_err-wires.result c.from_residual-in_err-wires.ensures.1 in
    rw (p.1, p.2) (record { answer = all_wires-fault (view c.args.tree.now) _ c.in_ok-version.ensures _ c.in_ok-cycles.ensures _ c.in_ok-parts.ensures.parts _ c.in_ok-nets.ensures c.in_err-wires.field-0.0 c.in_err-wires.ensures })

pub returns-in_err-edges : goal.returns-in_err-edges
returns-in_err-edges c =
    let p = err_from_is_err_and c.from_residual-in_err-edges.result c.from_residual-in_err-edges.ensures.1 in
    rw (p.1, p.2)
    (record { answer = all_edges-fault (view c.args.tree.now) _ c.in_ok-version.ensures _ c.in_ok-cycles.ensures _ c.in_ok-parts.ensures.parts _ c.in_ok-nets.ensures _ c.in_ok-wires.ensures c.in_err-edges.field-0.0 c.in_err-edges.ensures })

pub invariant_of-result : goal.invariant_of-result
invariant_of-result c =
    (netlist_whole (view c.args.tree.now) _ (netlist-ok (view c.args.tree.now) _ c.in_ok-version.ensures _ c.in_ok-cycles.ensures _ c.in_ok-parts.ensures.parts _ c.in_ok-nets.ensures _ c.in_ok-wires.ensures _ c.in_ok-edges.ensures _ c.in_ok-stray.ensures), c.in_ok-parts.ensures.names)

pub returns : goal.returns
returns c = record { answer = netlist-ok (view c.args.tree.now) _ c.in_ok-version.ensures _ c.in_ok-cycles.ensures _ c.in_ok-parts.ensures.parts _ c.in_ok-nets.ensures _ c.in_ok-wires.ensures _ c.in_ok-edges.ensures _ c.in_ok-stray.ensures }
