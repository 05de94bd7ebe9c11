use Rattle.minplus.specs.Matrix.{cells}
use Rattle.minplus.proofs.Starting.{both_sides, falls_further}
use Rattle.minplus.proofs.edges.lower_cause.Goals as goal

pub returns-clause-falls : goal.returns-clause-falls
returns-clause-falls c = falls_further (cells c.args.rows.now) _ _ c.lower_named.ensures.falls c.lower_named-2.ensures.falls

pub returns-clause-cause : goal.returns-clause-cause
returns-clause-cause c = both_sides c.args.net.now _ _ _ _ c.lower_named-2.ensures.falls c.lower_named.ensures.edge c.lower_named-2.ensures.edge
