use Rattle.branch.proofs.Signs.{IsEnough, is_enough}
use Rattle.branch.proofs.raise.enough.Goals as goal
use Rattle.branch.proofs.raise.enough.Goals.{After-greater-2}

enough : (c : After-greater-2) → IsEnough c.args.span.highest c.args.span.lowest c.args.first c.args.last c.args.reach c.greater-2.result
enough c =
    is_enough c.args.span.highest c.args.span.lowest c.args.first c.args.last c.args.reach c.gap.result c.shortfall.result c.greater.result c.greater-2.result c.requires.highest
    c.requires.lowest c.requires.first c.requires.last c.requires.reach c.gap.ensures c.shortfall.ensures c.greater.ensures.either c.greater.ensures.second c.greater-2.ensures.either
    c.greater-2.ensures.first

pub returns-clause-high : goal.returns-clause-high
returns-clause-high c = (enough c).high

pub returns-clause-reached : goal.returns-clause-reached
returns-clause-reached c = (enough c).reached
