use Rattle.std.proofs.Common.{refl}
use Rattle.edge_clauses.specs.Step.Standing.{frame_now, goal_of}
use Rattle.edge_clauses.proofs.Judging.{falls_as}
use Rattle.edge_clauses.proofs.judge.lets_fall.Goals as goal

pub returns : goal.returns
returns c = record {
  falls = λ net limits. falls_as net (goal_of c.args.terms) (frame_now c.args.frames.now) c.args.bound.event c.args.bound.value c.args.clause.now c.all_fall.result c.all_fall.ensures.all
      ((c.if-not-is_bound.ensures.bound net limits).0 refl) (c.if-not-is_lower.ensures.0 refl);
}
