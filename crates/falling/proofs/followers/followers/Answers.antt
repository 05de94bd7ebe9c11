use Rattle.std.proofs.Common.{arith}
use Rattle.falling.proofs.Following.{all_constraints, constraints_more}
use Rattle.falling.proofs.followers.followers.Goals as goal

pub loop-number-preserved : goal.loop-number-preserved
loop-number-preserved c =
    let pushed = c.in_ok-push_constraint.ensures in
    record {
      lists = pushed.grows.lists;
      constraints = constraints_more _ _ _ _ c.loop-number.invariant.constraints pushed.grows pushed.causes;
    }

pub returns : goal.returns
returns c = all_constraints _ _ c.loop-number.number (omega arith) c.loop-number.invariant.lists c.loop-number.invariant.constraints
