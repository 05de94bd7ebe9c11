use Rattle.std.proofs.Common.{◌≡◌}
use Rattle.drawn_numbers.specs.Numbers.{origins_of}
use Rattle.moves.proofs.Drew.{few_read, read_at}
use Rattle.moves.proofs.reading.origins_of.Goals as goal

pub returns : goal.returns
returns c =
    let read : c.as_slice.result.now ≡ origins_of c.args.drawn.now c.args.constraint =
    read_at c.args.drawn.now c.args.constraint c.from.result c.origins.result.now c.get.result.now c.as_slice.result.now c.origins.ensures.origins c.from.ensures c.get.ensures.item
    c.as_slice.ensures.items in
    record { origins = read; few = few_read c.args.drawn.now c.args.constraint c.as_slice.result.now c.read_drawn.ensures.net c.read_drawn.ensures.fit read }
