use Rattle.std.proofs.Common.{◌≡◌, ◌≤◌, length}
use Rattle.diff_bounds.specs.Step.Guessing.{AreEvents}
use Rattle.diff_bounds.proofs.order.release.Given as goal

abbrev pub invariant-loop-arc : goal.invariant-loop-arc
invariant-loop-arc l = record {
  order : AreEvents (length l.order) l.order;
  size : length l.order ≡ length l.fn.order;
  due : length l.due ≡ length l.fn.due;
  more : l.fn.count ≤ l.placed;
  most : l.placed ≤ length l.order;
}
