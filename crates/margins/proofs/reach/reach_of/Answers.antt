use Rattle.std.proofs.Common.{◌≡◌, ◌<◌, ◌≤◌, length, ap, arith, subst, sym}
use Rattle.event_graph.specs.Network.{Net}
use Rattle.margins.specs.Reaching.{IsReachOf, any_reach, reach_along}
use Rattle.margins.specs.declared.reach.Reach.{Reach}
use Rattle.margins.proofs.Along.{along_all, along_more, reach_is}
use Rattle.margins.proofs.reach.reach_of.Goals as goal

pub loop-constraint-preserved : goal.loop-constraint-preserved
loop-constraint-preserved c =
    let count : length c.network.result.now.constraints ≡ length c.args.drawn.now.net.constraints = ap (λ (n : Net). length n.constraints) c.network.ensures.network in
    let within : c.loop-constraint.constraint < length c.args.drawn.now.net.constraints = omega (arith, c.loop-constraint-test.true, c.len-constraint-end.ensures.count, count) in
    along_more c.args.drawn.now c.args.number.now c.args.side c.loop-constraint.constraint c.loop-constraint.reach c.reach_over-reach.result _ c.read_drawn.ensures.fit within
    c.reach_over-reach.ensures.reach c.loop-constraint.invariant

pub returns : goal.returns
returns c =
    let drawn = c.args.drawn.now in
    let count : length c.network.result.now.constraints ≡ length drawn.net.constraints = ap (λ (n : Net). length n.constraints) c.network.ensures.network in
    let whole : length drawn.net.constraints ≤ c.loop-constraint.constraint = omega (arith, c.loop-constraint-test.false, c.len-constraint-end.ensures.count, count) in
    let same : c.loop-constraint.reach ≡ reach_along drawn c.args.number.now c.args.side any_reach drawn.net.constraints drawn.origins =
    along_all drawn c.args.number.now c.args.side c.loop-constraint.constraint c.loop-constraint.reach _ whole c.loop-constraint.invariant in
    record { reach = subst (λ (r : Reach). IsReachOf drawn c.args.number.now c.args.side r) (sym same) (reach_is drawn c.args.number.now c.args.side c.read_drawn.ensures.net c.read_drawn.ensures.fit) }
