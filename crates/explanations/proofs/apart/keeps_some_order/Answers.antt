use Rattle.std.proofs.Common.{◌<◌, length, ap, subst, arith, Bool}
use Rattle.event_graph.specs.Network.{Net}
use Rattle.explanations.proofs.Wider.{IsOrder, whole_next}
use Rattle.explanations.proofs.apart.keeps_some_order.Goals as goal

pub loop-number-preserved : goal.loop-number-preserved
loop-number-preserved c =
    let net : Net = c.args.drawn.now.net in
    let origins = c.origins-origins.result.now in
    let k = c.loop-number.number in
    let within : k < length net.constraints = omega (arith, c.loop-number-test.true, c.len-number-end.ensures.count, ap (λ (n : Net). length n.constraints) c.network-net.ensures.network) in
    whole_next net origins k c.origins-origins.ensures.fit within (subst (λ (b : Bool). IsOrder origins k b) c.if-keeps_order_at.false c.keeps_order_at.ensures.order) c.loop-number.invariant
