use Rattle.std.proofs.Common.{◌<◌, length, ap, arith}
use Rattle.event_graph.specs.Network.{AreEnds, Net}
use Rattle.event_graph.proofs.RangeSet.{cause_there, constraint_set, net_with_range}
use Rattle.event_graph.proofs.network.Network.set_range.Goals as goal

pub invariant_of-self : goal.invariant_of-self
invariant_of-self c =
    let net : Net = record { events = c.self.inside.events; constraints = c.self.inside.constraints.items } in
    let within : c.args.constraint < length net.constraints = omega arith in
    let ends : AreEnds c.args.range = rw (← c.low.ensures.end, ← c.high.ensures.end) (c.low.ensures.within, c.high.ensures.within) in
    rw (constraint_set net.constraints c.args.constraint c.args.cause c.args.range _ _ within c.index_mut.ensures.value c.set_range.ensures.set)
    (net_with_range net c.args.constraint c.args.cause c.args.range c.self.invariant ends)

pub returns-clause-there : goal.returns-clause-there
returns-clause-there c =
    let net : Net = record { events = c.self.inside.events; constraints = c.self.inside.constraints.items } in
    let within : c.args.constraint < length net.constraints = omega arith in
    rw (← c.self.view_is) (cause_there net c.args.constraint c.args.cause _ c.set_range.result within c.index_mut.ensures.value c.set_range.ensures.there)

pub returns-clause-set : goal.returns-clause-set
returns-clause-set c =
    let net : Net = record { events = c.self.inside.events; constraints = c.self.inside.constraints.items } in
    let within : c.args.constraint < length net.constraints = omega arith in
    rw (← c.self.view_is) (ap (λ cs. record net { constraints = cs })
    (constraint_set net.constraints c.args.constraint c.args.cause c.args.range _ _ within c.index_mut.ensures.value c.set_range.ensures.set))
