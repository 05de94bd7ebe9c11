use Rattle.std.proofs.Common.{refl}
use Rattle.edge_clauses.specs.Step.Standing.{frame_now, goal_of}
use Rattle.edge_clauses.proofs.Judging.{rises_as}
use Rattle.edge_clauses.proofs.judge.lets_rise.Goals as goal

pub returns : goal.returns
returns c = record {
  rises = λ net limits. rises_as net (goal_of c.args.terms) (frame_now c.args.frames.now) c.args.bound.event c.args.bound.value c.args.clause.now c.all_rise.result c.all_rise.ensures.all
      ((c.if-not-is_bound.ensures.bound net limits).0 refl) (c.if-not-is_higher.ensures.0 refl);
}
