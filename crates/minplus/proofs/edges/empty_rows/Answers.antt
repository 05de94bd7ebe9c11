use Rattle.minplus.proofs.Starting.{rows_more}
use Rattle.minplus.proofs.edges.empty_rows.Goals as goal

pub loop-own-preserved : goal.loop-own-preserved
loop-own-preserved c = rows_more _ _ _ _ _ c.loop-own.invariant c.in_ok-empty_row.ensures c.in_ok-push.ensures.items
