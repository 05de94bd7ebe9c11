use Rattle.std.proofs.Common.{◌≡◌, ◌≤◌, length}
use Rattle.diff_bounds.specs.Settled.{AreLabelsNear, IsFeasible}
use Rattle.diff_bounds.specs.Step.Falling.{with_stamps}
use Rattle.diff_bounds.specs.Step.Poised.{scope_from}
use Rattle.diff_bounds.proofs.settling.settle_by_event.Given as goal

abbrev pub invariant-loop-first : goal.invariant-loop-first
invariant-loop-first l = record {
  within : l.first ≤ l.net.events;
  stack : l.trail ≡ with_stamps l.fn.trail l.trail.current.stamps;
  slots : length l.trail.current.stamps ≡ length l.fn.trail.current.stamps;
  near : AreLabelsNear l.trail.current.stamps;
  feasible : IsFeasible (scope_from l.net l.trail l.first) l.trail.current.stamps;
  marks : length l.pending.marks ≡ l.net.events;
}

abbrev pub decreases-loop-first : goal.decreases-loop-first
decreases-loop-first l = l.first
