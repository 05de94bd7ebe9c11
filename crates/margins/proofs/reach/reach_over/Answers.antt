use Rattle.std.proofs.Common.{◌≡◌, ◌≤◌, length, ap, arith}
use Rattle.drawn_numbers.specs.Numbers.{origins_of}
use Rattle.moves.specs.Step.{causes_at}
use Rattle.margins.proofs.Along.{over_all, over_more}
use Rattle.margins.proofs.reach.reach_over.Goals as goal

pub loop-k-preserved : goal.loop-k-preserved
loop-k-preserved c =
    over_more c.args.drawn.now c.args.number.now c.args.side c.args.constraint c.loop-k.k c.part_of_target-part.result.now c.origins_of-origins.result.now _ c.loop-k.reach
    c.reach_within-reach.result _ c.cause_of-cause.result c.any_draws.result c.part_of_target-part.ensures.part c.origins_of-origins.ensures.origins c.loop-k-test.true c.cause_of-cause.ensures.cause
    c.any_draws.ensures.any_draws c.reach_within-reach.ensures c.loop-k.invariant

pub returns : goal.returns
returns c =
    let count : length c.origins_of-origins.result.now ≡ length (origins_of c.args.drawn.now c.args.constraint) = ap length c.origins_of-origins.ensures.origins in
    let whole : length (origins_of c.args.drawn.now c.args.constraint) ≤ c.loop-k.k = omega (arith, c.loop-k-test.false, count) in
    record {
      reach = over_all c.args.side _ (causes_at c.args.drawn.now.net c.args.constraint) (origins_of c.args.drawn.now c.args.constraint) c.loop-k.k c.loop-k.reach _ whole c.loop-k.invariant;
    }
