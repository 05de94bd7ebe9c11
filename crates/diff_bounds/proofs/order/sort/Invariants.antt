use Rattle.std.proofs.Common.{◌-◌, ◌≡◌, ◌≤◌, length}
use Rattle.diff_bounds.specs.Step.Guessing.{AreEvents}
use Rattle.diff_bounds.proofs.order.sort.Given as goal

abbrev pub invariant-loop-next : goal.invariant-loop-next
invariant-loop-next l = record {
  order : AreEvents l.net.events l.order;
  due : length l.due ≡ l.net.events;
  next : l.next ≤ l.count;
  count : l.count ≤ l.net.events;
}

abbrev pub decreases-loop-next : goal.decreases-loop-next
decreases-loop-next l = l.net.events - l.next
