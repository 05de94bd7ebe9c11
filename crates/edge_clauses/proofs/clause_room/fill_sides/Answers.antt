use Rattle.std.proofs.Common.{sym, ◌∙◌, arith}
use Rattle.edge_clauses.proofs.Filling.{sides_all, sides_more, sides_open}
use Rattle.edge_clauses.proofs.clause_room.fill_sides.Goals as goal

pub returns-in_default-clause-open : goal.returns-in_default-clause-open
returns-in_default-clause-open c k at f clause same =
    sides_open c.args.net.now c.args.number c.loop-cause.cause c.args.side k clause at (c.cause_count-count.ensures.each c.loop-cause.cause c.loop-cause-test.true)
    (sym c.edge.ensures.edge ∙ c.in_default.is) same

pub loop-cause-preserved : goal.loop-cause-preserved
loop-cause-preserved c k at =
    sides_more c.args.net.now c.args.number c.loop-cause.cause c.args.side k c.in-Some.edge c.loop-cause.room.items c.push.new.self.items at (sym c.edge.ensures.edge ∙ c.in-Some.is)
    c.in_ok-push.ensures.items (c.loop-cause.invariant k at)

pub returns-clause-edges : goal.returns-clause-edges
returns-clause-edges c k at choice t =
    sides_all c.args.net.now c.args.number c.cause_count-count.result c.loop-cause.cause c.args.side k c.loop-cause.room.items at c.cause_count-count.ensures.count
    (omega (arith, c.loop-cause-test.false)) choice (c.loop-cause.invariant k at)
