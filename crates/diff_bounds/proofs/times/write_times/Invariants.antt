use Rattle.std.proofs.Common.{◌+ℤ◌}
use Rattle.diff_bounds.specs.Labels.{labels_from, number}
use Rattle.diff_bounds.specs.Standing.{lifted}
use Rattle.diff_bounds.proofs.Lifting.{AreWritten}
use Rattle.diff_bounds.proofs.times.write_times.Given as goal

abbrev pub invariant-loop-event : goal.invariant-loop-event
invariant-loop-event l = AreWritten (λ v. lifted (labels_from l.trail.current.stamps 0 v) (number (labels_from l.trail.current.stamps l.events v) +ℤ l.lift)) l.out l.event
