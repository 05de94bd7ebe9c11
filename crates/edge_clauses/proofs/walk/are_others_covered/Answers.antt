use Rattle.std.proofs.Common.{refl, arith}
use Rattle.edge_clauses.proofs.Walking.{others_all, others_more}
use Rattle.edge_clauses.proofs.walk.are_others_covered.Goals as goal

pub loop-place-preserved : goal.loop-place-preserved
loop-place-preserved c =
    others_more c.args.event c.args.shown.now c.args.walk c.args.through c.args.clause.now c.loop-place.place c.edge_in.result c.is_place-is_through.result c.edge_in.ensures
    c.is_place-is_through.ensures (c.if-not-is_other_covered.ensures.0 refl) c.loop-place.invariant

pub returns : goal.returns
returns c = record {
  covered = (
    (λ t. others_all c.args.event c.args.shown.now c.args.walk c.args.through c.args.clause.now c.loop-place.place (λ less. omega (arith, c.loop-place-test.false)) c.loop-place.invariant),
    (λ h. refl),
  );
}
