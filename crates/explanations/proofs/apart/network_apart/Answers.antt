use Rattle.std.proofs.Common.{◌<◌, ◌≤◌, length, ◌∙◌, subst, sym, arith, Bool}
use Rattle.itv_base.specs.declared.limits.TheConstants.{MAX_CONSTRAINTS}
use Rattle.event_graph.specs.Network.{Net}
use Rattle.drawn_networks.specs.Drawn.{OriginsFit}
use Rattle.explanations.proofs.Wider.{IsOrder, copied_next, front_apart, front_fits, left_out}
use Rattle.explanations.proofs.apart.network_apart.Goals as goal
use Rattle.explanations.proofs.apart.network_apart.Goals.{then-not-keeps_order_at+in_ok-push_copy, else-not-keeps_order_at}

pub push_copy-requires-clause-room : goal.push_copy-requires-clause-room
push_copy-requires-clause-room c =
    let net : Net = c.network-net.result.now in
    let origins = c.origins-origins.result.now in
    let k = c.loop-number.number in
    let within : k < length net.constraints = omega (arith, c.loop-number-test.true, c.len-number-end.ensures.count) in
    let most : length net.constraints ≤ MAX_CONSTRAINTS = c.events.ensures.net.count in
    let fits : length (front_apart net origins k).constraints ≤ k = front_fits net origins k (omega (arith, within)) in
    subst (λ (n : Net). length n.constraints < MAX_CONSTRAINTS) (sym c.loop-number.invariant) (omega (arith, within, most, fits))

pub loop-number-preserved : goal.loop-number-preserved
loop-number-preserved c =
    let net : Net = c.network-net.result.now in
    let origins = c.origins-origins.result.now in
    let k = c.loop-number.number in
    let fit : OriginsFit net origins = subst (λ (n : Net). OriginsFit n origins) (sym c.network-net.ensures.network) c.origins-origins.ensures.fit in
    let within : k < length net.constraints = omega (arith, c.loop-number-test.true, c.len-number-end.ensures.count) in
    let order : IsOrder origins k c.keeps_order_at.result = c.keeps_order_at.ensures.order in
    elim c.if-not-keeps_order_at.branch [
      | then-not-keeps_order_at+in_ok-push_copy w ↦
          w.apart-is ∙ copied_next net origins k c.loop-number.apart w.push_copy.new.self fit within
          (subst (λ (b : Bool). IsOrder origins k b) w.if-not-keeps_order_at.true order) c.loop-number.invariant w.in_ok-push_copy.ensures.added
      | else-not-keeps_order_at w ↦
          w.apart-is ∙ (c.loop-number.invariant ∙ sym (left_out net origins k fit within (subst (λ (b : Bool). IsOrder origins k b) w.if-not-keeps_order_at.false order)))
    ]
