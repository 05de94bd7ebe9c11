use Rattle.itv_base.proofs.Written.{puts_same}
use Rattle.redraw.proofs.Pieces.{demand_is}
use Rattle.redraw.proofs.write.put_demand.Goals as goal

pub returns : goal.returns
returns g c =
    puts_same _ _ _ _ _
    (demand_is c.args.stands.now c.args.from c.args.to c.args.range c.number_of-tail.result c.number_of-head.result c.mark_at-from_mark.result c.mark_at-to_mark.result c.number_of-tail.ensures.number c.number_of-head.ensures.number c.mark_at-from_mark.ensures c.mark_at-to_mark.ensures)
    c.put_edge.ensures
