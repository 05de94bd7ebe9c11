use Rattle.std.proofs.Common.{length, refl}
use Rattle.redraw.proofs.Ordered.{placed_is, row_ordered}
use Rattle.redraw.proofs.row.place_all.Goals as goal

pub stand_up-requires : goal.stand_up-requires
stand_up-requires c =
    let r = row_ordered (length c.args.times.now) c.args.asked.now.from c.args.asked.now.to c.args.times.now c.requires.from c.requires.to refl c.requires.small in
    rw c.order-count.ensures.items (record { some = r.some; few = r.few; room = c.requires.stands; order = r.order; times = r.small })

pub returns-clause-placed : goal.returns-clause-placed
returns-clause-placed c =
    placed_is c.order-count.new.timed c.stand_up.new.stands c.order-count.result _ c.order-count.ensures.room c.order-count.ensures.count c.order-count.ensures.items c.stand_up.ensures.stands
