use Rattle.std.proofs.Common.{append_assoc, ap, length, length-append, take, arith}
use Rattle.std.specs.List.{filter_map}
use Rattle.std.specs.Option.{option_to_list}
use Rattle.event_graph.specs.Network.{Net}
use Rattle.unroll.specs.Cycles.{constraint_in}
use Rattle.unroll.proofs.CycleLists.{filter_map_more, filter_map_room}
use Rattle.unroll.proofs.network.push_cycle.Goals as goal

pub push_rule-requires-clause-room : goal.push_rule-requires-clause-room
push_rule-requires-clause-room c =
    let given = constraint_in c.args.marks c.args.cycle in
    let rules = c.args.rules.now in
    let i = c.loop-rule.rule-index in
    let stood = ap (λ (net : Net). length net.constraints) c.loop-rule.invariant in
    omega (arith, stood, length-append c.args.network.now.constraints (filter_map given (take i rules)), filter_map_room given rules i c.rule-item.result c.loop-rule-test.true c.rule-item.is, c.requires.room)

pub loop-rule-preserved : goal.loop-rule-preserved
loop-rule-preserved c =
    let given = constraint_in c.args.marks c.args.cycle in
    let rules = c.args.rules.now in
    let i = c.loop-rule.rule-index in
    let old = c.args.network.now in
    let more = filter_map_more given rules i c.rule-item.result c.loop-rule-test.true c.rule-item.is in
    rw (c.in_ok-push_rule.ensures, c.loop-rule.invariant, more)
    (ap (λ constraints. record { events = old.events; constraints = constraints }) (append_assoc old.constraints (filter_map given (take i rules)) (option_to_list (given c.rule-item.result))))
