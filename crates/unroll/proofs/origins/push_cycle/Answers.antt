use Rattle.std.proofs.Common.{append_assoc, take}
use Rattle.std.specs.List.{filter_map}
use Rattle.std.specs.Option.{option_to_list}
use Rattle.unroll.specs.Cycles.{origins_in}
use Rattle.unroll.proofs.CycleLists.{filter_map_more}
use Rattle.unroll.proofs.origins.push_cycle.Goals as goal

pub loop-rule-preserved : goal.loop-rule-preserved
loop-rule-preserved c =
    let given = origins_in c.args.cycle in
    let rules = c.args.rules.now in
    let i = c.loop-rule.rule-index in
    rw (c.in_ok-push_rule.ensures, c.loop-rule.invariant, filter_map_more given rules i c.rule-item.result c.loop-rule-test.true c.rule-item.is)
    (append_assoc c.args.origins.now (filter_map given (take i rules)) (option_to_list (given c.rule-item.result)))
