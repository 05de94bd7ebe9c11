use Rattle.std.proofs.Common.{◌<◌, max, arith}
use Rattle.minplus.specs.Matrix.{cells}
use Rattle.minplus.proofs.Starting.{all_causes, causes_more, falls_further, falls_not}
use Rattle.minplus.proofs.edges.lower_constraint.Goals as goal

pub loop-cause-init : goal.loop-cause-init
loop-cause-init c = record {
  bounds = c.requires.bounds;
  falls = falls_not (cells c.args.rows.now);
  causes = λ cause below. absurd (omega arith);
}

pub loop-cause-preserved : goal.loop-cause-preserved
loop-cause-preserved c = record {
  bounds = c.lower_cause.ensures.bounds;
  falls = falls_further (cells c.args.rows.now) _ _ c.loop-cause.invariant.falls c.lower_cause.ensures.falls;
  causes = causes_more c.args.net.now (cells c.loop-cause.rows) (cells c.lower_cause.new.rows) c.args.constraint c.loop-cause.cause c.loop-cause.invariant.causes c.lower_cause.ensures.falls c.lower_cause.ensures.cause;
}

pub returns-clause-causes : goal.returns-clause-causes
returns-clause-causes c =
    all_causes c.args.net.now _ c.args.constraint c.cause_count.result c.requires.net c.cause_count.ensures.count
    (λ cause (below : cause < max c.cause_count.result 1). c.loop-cause.invariant.causes cause (omega arith))
