use Rattle.std.proofs.Common.{◌≡◌, ◌≤◌, length}
use Rattle.diff_bounds.specs.Step.Guessing.{AreEvents}
use Rattle.diff_bounds.proofs.order.place_last.Given as goal

abbrev pub invariant-loop-event : goal.invariant-loop-event
invariant-loop-event l = record {
  order : AreEvents (length l.order) l.order;
  size : length l.order ≡ l.net.events;
  most : l.placed ≤ length l.order;
}
