use Rattle.diff_bounds.specs.Step.Falling.{AllDone, RunsOn, scope_of, work_left}
use Rattle.diff_bounds.proofs.falling.fall.Given as goal

abbrev pub invariant-loop-event : goal.invariant-loop-event
invariant-loop-event l = record {
  runs : RunsOn (scope_of l.net l.fn.trail l.run) l.run l.fn.trail l.trail l.fn.pending l.pending;
  all : AllDone (scope_of l.net l.fn.trail l.run) l.run l.trail.current.stamps l.pending.marks;
}

abbrev pub decreases-loop-event : goal.decreases-loop-event
decreases-loop-event l = work_left l.trail.current.stamps l.pending.count
