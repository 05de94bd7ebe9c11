use Rattle.std.proofs.Common.{◌∙◌, sym, ap}
use Rattle.std.proofs.lemmas.Result.{err_from_is_err_and}
use Rattle.serde_json.specs.View.{view}
use Rattle.netlist.specs.Netlist.{delay_of}
use Rattle.netlist.proofs.NetSteps.{net-pins, net-ends, net-delay, net-ok}
use Rattle.netlist.proofs.nets.read_net.Goals as goal

pub returns-in_err-pins : goal.returns-in_err-pins
returns-in_err-pins c =
    let p = err_from_is_err_and c.from_residual.result c.from_residual.ensures.1 in
    rw (p.1, p.2) (net-pins c.args.n (view c.args.element.now) c.in_err-pins.field-0.0 c.in_err-pins.ensures)

pub returns-in_default : goal.returns-in_default
returns-in_default c = net-ends c.args.n (view c.args.element.now) _ c.in_ok-pins.ensures (sym (c.in_default.ensures ∙ ap delay_of c.get.ensures))

pub returns-in_err-delay : goal.returns-in_err-delay
returns-in_err-delay c =
    let p = err_from_is_err_and c.from_residual-in_err-delay.result c.from_residual-in_err-delay.ensures.1 in
    rw (p.1, p.2) (net-delay c.args.n (view c.args.element.now) _ c.in_ok-pins.ensures _ (sym (c.in-Some.ensures ∙ ap delay_of c.get.ensures)) c.in_err-delay.field-0.0 c.in_err-delay.ensures)

pub returns : goal.returns
returns c =
    net-ok c.args.n (view c.args.element.now) _ c.in_ok-pins.ensures _ (sym (c.in-Some.ensures ∙ ap delay_of c.get.ensures)) _ c.in_ok-delay.ensures _ (c.in_ok-name.ensures ∙ c.text_at.ensures)
