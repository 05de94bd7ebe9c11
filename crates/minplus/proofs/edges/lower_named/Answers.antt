use Rattle.minplus.specs.Matrix.{cells}
use Rattle.minplus.proofs.Starting.{bounds_after, edge_held}
use Rattle.minplus.proofs.edges.lower_named.Goals as goal

pub returns-in-Some-clause-bounds : goal.returns-in-Some-clause-bounds
returns-in-Some-clause-bounds c = bounds_after _ c.args.name _ _ _ c.in-Some.ensures.some c.lower.ensures.square c.lower.ensures.lowers c.requires

pub returns-in-Some-clause-edge : goal.returns-in-Some-clause-edge
returns-in-Some-clause-edge c = edge_held _ _ _ (cells c.args.rows.now) _ c.in-Some.ensures.some c.lower.ensures.lowers

pub returns-in-Some-clause-falls : goal.returns-in-Some-clause-falls
returns-in-Some-clause-falls c = c.lower.ensures.lowers.falls
