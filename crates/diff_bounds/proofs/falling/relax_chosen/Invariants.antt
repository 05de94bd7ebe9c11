use Rattle.std.proofs.Common.{◌≡◌, Some}
use Rattle.diff_bounds.specs.Labels.{labels_from}
use Rattle.diff_bounds.proofs.Tracing.{Traced, edges_to}
use Rattle.diff_bounds.proofs.falling.relax_chosen.Given as goal

abbrev pub invariant-loop-next : goal.invariant-loop-next
invariant-loop-next l = record {
  traced : Traced l.net l.run l.fn.from.0 l.chosen.arcs l.fn.trail l.trail l.fn.pending l.pending l.next;
  near : labels_from l.trail.current.stamps l.run.base l.fn.from.0 ≡ Some l.near;
}

abbrev pub decreases-loop-next : goal.decreases-loop-next
decreases-loop-next l = edges_to l.next
