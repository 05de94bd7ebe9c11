use Rattle.std.proofs.Common.{◌<◌, length, arith}
use Rattle.minplus.proofs.Starting.{all_held, constraints_more}
use Rattle.minplus.proofs.edges.lower_all.Goals as goal

pub loop-constraint-init : goal.loop-constraint-init
loop-constraint-init c = record { bounds = c.requires.bounds; constraints = λ constraint cause below. absurd (omega arith) }

pub loop-constraint-preserved : goal.loop-constraint-preserved
loop-constraint-preserved c = record {
  bounds = c.lower_constraint.ensures.bounds;
  constraints = constraints_more c.args.net.now _ _ c.loop-constraint.constraint c.loop-constraint.invariant.constraints c.lower_constraint.ensures.falls c.lower_constraint.ensures.causes;
}

pub returns-clause-edges : goal.returns-clause-edges
returns-clause-edges c =
    all_held c.args.net.now _
    (λ constraint cause (below : constraint < length c.args.net.now.constraints). c.loop-constraint.invariant.constraints constraint cause (omega arith))
