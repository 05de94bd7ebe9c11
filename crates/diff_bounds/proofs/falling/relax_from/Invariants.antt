use Rattle.std.proofs.Common.{◌≡◌, Some}
use Rattle.diff_bounds.specs.Labels.{labels_from}
use Rattle.diff_bounds.proofs.Parts.{Tried}
use Rattle.diff_bounds.proofs.falling.relax_from.Given as goal

abbrev pub invariant-loop-arc : goal.invariant-loop-arc
invariant-loop-arc l = record {
  tried : Tried l.net l.run l.fn.from.0 l.arcs l.fn.trail l.trail l.fn.pending l.pending l.arc-index;
  near : labels_from l.trail.current.stamps l.run.base l.fn.from.0 ≡ Some l.near;
}
