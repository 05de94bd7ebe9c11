use Rattle.std.proofs.Common.{arith}
use Rattle.compose.specs.Joins.{join_at}
use Rattle.compose.proofs.WholeDesigns.{number_within}
use Rattle.unroll.proofs.BetweenLists.{join_there}
use Rattle.unroll.proofs.rules.keep_pin.Goals as goal

pub join-requires-clause-driver : goal.join-requires-clause-driver
join-requires-clause-driver c =
    let sheets = c.args.design.now.sheets in
    let pin = c.args.pin.now in
    let there = join_there sheets pin c.loop-k.k c.loop-k-test.true c.requires in
    omega (arith, number_within sheets (join_at pin c.loop-k.k).from there.0, c.design.ensures.few)

pub join-requires-clause-driven : goal.join-requires-clause-driven
join-requires-clause-driven c =
    let sheets = c.args.design.now.sheets in
    let pin = c.args.pin.now in
    let there = join_there sheets pin c.loop-k.k c.loop-k-test.true c.requires in
    omega (arith, number_within sheets (join_at pin c.loop-k.k).to there.1, c.design.ensures.few)

pub join_rule-requires : goal.join_rule-requires
join_rule-requires c = rw c.join.ensures.join (join_there c.args.design.now.sheets c.args.pin.now c.loop-k.k c.loop-k-test.true c.requires)
