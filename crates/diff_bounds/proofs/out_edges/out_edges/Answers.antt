use Rattle.std.proofs.Common.{◌<◌, length, arith}
use Rattle.diff_bounds.proofs.OutLists.{all_constraints, constraints_more}
use Rattle.diff_bounds.proofs.out_edges.out_edges.Goals as goal

pub loop-constraint-preserved : goal.loop-constraint-preserved
loop-constraint-preserved c =
    let pushed = c.in_ok-push_constraint.ensures in
    record {
      arcs = pushed.grows.arcs;
      constraints = constraints_more _ _ _ _ c.loop-constraint.invariant.constraints pushed.grows pushed.causes;
    }

pub returns : goal.returns
returns c =
    all_constraints _ _ c.loop-constraint.invariant.arcs
    (λ constraint cause (below : constraint < length c.args.net.now.constraints). c.loop-constraint.invariant.constraints constraint cause (omega arith))
