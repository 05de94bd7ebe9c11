use Rattle.job_why.proofs.Looking.{origins_read}
use Rattle.job_why.proofs.drawn_cause.origins_at.Goals as goal

pub returns-clause-fit : goal.returns-clause-fit
returns-clause-fit c =
    origins_read c.args.drawn.now c.args.number c.from.result c.origins.result.now c.get.result.now c.as_slice.result.now c.origins.ensures.origins c.from.ensures c.get.ensures.item
    c.as_slice.ensures.items c.origins.ensures.fit c.requires.number
