use Rattle.std.proofs.Common.{◌∙◌, sym}
use Rattle.std.proofs.lemmas.Result.{err_from_is_err_and}
use Rattle.serde_json.specs.View.{view}
use Rattle.netlist.specs.Fault.{is_memory}
use Rattle.netlist.specs.Netlist.{with_part}
use Rattle.itv_base.proofs.Faults.{walk_on_map, walk_fault_map}
use Rattle.netlist.proofs.parts.read_parts.Goals as goal

pub returns-in_err-push_part : goal.returns-in_err-push_part
returns-in_err-push_part c =
    let p = err_from_is_err_and c.from_residual.result c.from_residual.ensures.1 in
    rw (p.1, p.2, ← c.loop-n.invariant)
    (walk_fault_map is_memory (with_part c.args.version) view c.loop-n.n c.loop-n.n c.loop-n.parts c.args.list.now c.index-list-n.result c.in_err-push_part.field-0.0 c.loop-n-test.true c.index-list-n.is c.in_err-push_part.ensures)

pub loop-n-preserved : goal.loop-n-preserved
loop-n-preserved c =
    sym (walk_on_map (with_part c.args.version) view c.loop-n.n c.loop-n.n c.loop-n.parts c.push_part.new.parts c.args.list.now c.index-list-n.result c.loop-n-test.true c.index-list-n.is c.in_ok-push_part.ensures)
    ∙ c.loop-n.invariant
