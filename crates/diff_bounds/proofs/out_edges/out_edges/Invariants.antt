use Rattle.diff_bounds.specs.Step.Listing.{AreArcsSoFar}
use Rattle.diff_bounds.proofs.OutLists.{HasConstraintsBelow}
use Rattle.diff_bounds.proofs.out_edges.out_edges.Given as goal

abbrev pub invariant-loop-constraint : goal.invariant-loop-constraint
invariant-loop-constraint l = record {
  arcs : AreArcsSoFar l.net l.lists;
  constraints : HasConstraintsBelow l.net l.lists l.constraint;
}
