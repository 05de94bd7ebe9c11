use Rattle.std.proofs.Common.{◌∙◌, ap, sym}
use Rattle.serde_json.specs.View.{view}
use Rattle.netlist.specs.Netlist.{pin_at}
use Rattle.json_tree.proofs.ReadLists.{with_rest, rest_none, rest_more}
use Rattle.itv_base.proofs.Faults.{next_at}
use Rattle.netlist.proofs.pins.pins_in.Goals as goal

pub returns-in_default : goal.returns-in_default
returns-in_default c =
    let next = next_at view c.args.list.now c.loop-element.element-index c.element-item.result c.loop-element-test.true c.element-item.is in
    sym (rest_none pin_at c.loop-element.pins _ _ (sym c.in_ok-pin.ensures ∙ c.in_default.is)) ∙ sym (ap (with_rest pin_at c.loop-element.pins) next) ∙ c.loop-element.invariant

pub loop-element-preserved : goal.loop-element-preserved
loop-element-preserved c =
    let next = next_at view c.args.list.now c.loop-element.element-index c.element-item.result c.loop-element-test.true c.element-item.is in
    rw c.in_ok-push.ensures.ok
    (sym (rest_more pin_at c.loop-element.pins _ _ c.in-Some.pin (sym c.in_ok-pin.ensures ∙ c.in-Some.is)) ∙ sym (ap (with_rest pin_at c.loop-element.pins) next) ∙ c.loop-element.invariant)
