use Rattle.steady.proofs.RowSteps.{no_rows, row_more}
use Rattle.steady.proofs.rows.find_rows.Goals as goal

pub loop-row-init : goal.loop-row-init
loop-row-init c =
    no_rows c.args.run.now c.args.extremes.now c.args.steadying.now c.as_slice-row-items.result.now c.new-found.result.items c.requires.ready c.requires.steadying c.new-found.ensures.items

pub loop-row-preserved : goal.loop-row-preserved
loop-row-preserved c =
    row_more c.args.run.now c.args.extremes.now c.loop-row.extremes c.find_row.new.extremes c.loop-row.steadying c.find_row.new.steadying c.loop-row.row-index c.as_slice-row-items.result.now c.loop-row.found.items
    c.push.new.self.items c.row-item.result c.in_ok-next.next c.loop-row-test.true c.row-item.is c.loop-row.invariant c.in_ok-push.ensures.items c.in_ok-next.ensures.ready c.in_ok-next.ensures.budget
    c.in_ok-next.ensures.steadying c.in_ok-next.ensures.found c.in_ok-next.ensures.settles
