use Rattle.steady.proofs.CourseSteps.{IsCourseSoFar}
use Rattle.steady.proofs.course.furthest.Given as goal

abbrev pub invariant-loop-cycle : goal.invariant-loop-cycle
invariant-loop-cycle l = IsCourseSoFar l.net l.fn.extremes l.extremes l.course.marks l.row l.side l.course.start l.cycle l.most
