use Rattle.std.proofs.Common.{◌≡◌, length, ap, arith}
use Rattle.event_graph.specs.Network.{Net}
use Rattle.drawn_numbers.proofs.DrawnCauses.{constraint_more}
use Rattle.drawn_numbers.proofs.There.{gathered_there}
use Rattle.drawn_numbers.proofs.causes.causes_of.Goals as goal

pub loop-constraint-preserved : goal.loop-constraint-preserved
loop-constraint-preserved c =
    constraint_more c.args.drawn.now c.args.number.now c.loop-constraint.constraint c.part_of_target-part.result.now c.origins_of-origins.result.now c.loop-constraint.causes.items
    c.add_causes.new.causes.items c.part_of_target-part.ensures.part c.origins_of-origins.ensures.origins c.loop-constraint.invariant c.in_ok-add_causes.ensures.added

pub returns-clause-there : goal.returns-clause-there
returns-clause-there c =
    let count : length c.network.result.now.constraints ≡ length c.args.drawn.now.net.constraints = ap (λ (n : Net). length n.constraints) c.network.ensures.network in
    let whole : c.loop-constraint.constraint ≡ length c.args.drawn.now.net.constraints =
    omega (arith, c.loop-constraint-test.false, c.loop-constraint.auto.constraint-end, c.len-constraint-end.ensures.count, count) in
    gathered_there c.args.drawn.now c.args.number.now c.loop-constraint.constraint c.loop-constraint.causes.items c.origins-origins.result.now c.origins-origins.ensures.origins
    c.origins-origins.ensures.fit c.loop-constraint.invariant whole
