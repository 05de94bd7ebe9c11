use Rattle.explanations.proofs.Lanes.{none_yet, one_more}
use Rattle.explanations.proofs.rows.explain_each.Goals as goal

pub loop-row-init : goal.loop-row-init
loop-row-init c = none_yet c.args.drawn.now c.as_slice-row-items.result.now c.new-found.result.items c.args.desk.now c.requires.ready c.new-found.ensures.items

pub loop-row-preserved : goal.loop-row-preserved
loop-row-preserved c =
    one_more c.args.drawn.now c.args.desk.now c.loop-row.row-index c.as_slice-row-items.result.now c.loop-row.found.items c.push.new.self.items c.loop-row.desk c.explain_row.new.desk
    c.row-item.result c.in_ok-last.last c.loop-row-test.true c.row-item.is c.loop-row.invariant c.in_ok-push.ensures.items c.in_ok-last.ensures.ready c.in_ok-last.ensures.kept
    c.in_ok-last.ensures.found c.in_ok-last.ensures.times
