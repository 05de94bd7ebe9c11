use Rattle.itv_base.proofs.Written.{puts_same}
use Rattle.redraw.proofs.Rows.{redrawn_at}
use Rattle.redraw.proofs.row.draw.Goals as goal

pub returns : goal.returns
returns g c = record {
  puts = puts_same _ _ _ _ _
      (redrawn_at c.args.names.now c.rows.result.now c.args.row c.from.result c.get-asked.result.now c.demand_of.result c.args.times.now c.rows.ensures.rows
      c.rows.ensures.within c.from.ensures c.get-asked.ensures.item c.requires.count c.demand_of.ensures)
      c.draw_asked.ensures.puts;
}
