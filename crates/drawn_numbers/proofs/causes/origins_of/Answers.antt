use Rattle.drawn_numbers.proofs.There.{few_read}
use Rattle.drawn_numbers.proofs.causes.origins_of.Goals as goal

pub returns-clause-few : goal.returns-clause-few
returns-clause-few c =
    few_read c.args.drawn.now c.args.constraint c.from.result c.network.result.now c.origins.result.now c.get.result.now c.as_slice.result.now c.network.ensures.network
    c.is_whole.ensures.net c.origins.ensures.origins c.origins.ensures.fit c.from.ensures c.get.ensures.item c.as_slice.ensures.items
