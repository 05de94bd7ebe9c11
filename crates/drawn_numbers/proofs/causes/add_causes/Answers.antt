use Rattle.drawn_numbers.specs.Numbers.{draws}
use Rattle.drawn_numbers.proofs.DrawnCauses.{among_more}
use Rattle.drawn_numbers.proofs.causes.add_causes.Goals as goal

pub loop-k-preserved : goal.loop-k-preserved
loop-k-preserved c =
    among_more (draws c.args.number.now c.args.part.now) c.args.constraint c.args.origins.now c.loop-k.k _ c.args.causes.now.items c.loop-k.causes.items
    c.add_drawn.new.causes.items c.draws.result c.loop-k-test.true c.draws.ensures.draws c.loop-k.invariant c.in_ok-add_drawn.ensures
