use Rattle.std.proofs.Common.{length, refl, arith}
use Rattle.redraw.proofs.Ordered.{row_ordered}
use Rattle.redraw.proofs.Rows.{stand_at}
use Rattle.redraw.proofs.row.draw_asked.Goals as goal

pub put_sketch-requires : goal.put_sketch-requires
put_sketch-requires g c =
    let r = row_ordered (length c.args.times.now) c.args.asked.now.from c.args.asked.now.to c.args.times.now c.requires.from c.requires.to refl c.requires.small in
    rw c.place_all-count.ensures.placed (record {
      some = omega (arith, r.some, r.count);
      stand = stand_at (length c.args.times.now) _ _ c.requires.count r.stand;
      numbers = r.numbers;
      near = r.near;
    })

pub returns-clause-puts : goal.returns-clause-puts
returns-clause-puts g c = rw c.place_all-count.ensures.placed at c.put_sketch.ensures.puts
