use Rattle.std.proofs.Common.{◌<◌, max, arith}
use Rattle.falling.proofs.Following.{all_causes, causes_more, grows_on}
use Rattle.falling.proofs.followers.push_constraint.Goals as goal

pub loop-cause-preserved : goal.loop-cause-preserved
loop-cause-preserved c =
    let lower = c.in_ok-push_edge.ensures in
    let upper = c.in_ok-push_edge-2.ensures in
    record {
      grows = grows_on _ _ _ _ c.loop-cause.invariant.grows (grows_on _ _ _ _ lower.grows upper.grows);
      causes = causes_more _ _ _ _ _ _ c.loop-cause.invariant.causes lower.grows upper.grows lower.edge upper.edge;
    }

pub returns-clause-causes : goal.returns-clause-causes
returns-clause-causes c =
    all_causes _ _ _ c.cause_count.result c.requires.net c.cause_count.ensures.count
    (λ cause (below : cause < max c.cause_count.result 1). c.loop-cause.invariant.causes cause (omega arith))
