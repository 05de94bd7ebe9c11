use Rattle.diff_bounds.specs.Step.Listing.{Grows}
use Rattle.diff_bounds.proofs.OutLists.{HasCausesBelow}
use Rattle.diff_bounds.proofs.out_edges.push_constraint.Given as goal

abbrev pub invariant-loop-cause : goal.invariant-loop-cause
invariant-loop-cause l = record {
  grows : Grows l.net l.fn.lists l.lists;
  causes : HasCausesBelow l.net l.lists l.constraint l.cause;
}
