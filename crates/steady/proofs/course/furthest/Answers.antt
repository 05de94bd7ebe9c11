use Rattle.std.proofs.Common.{arith}
use Rattle.steady.proofs.CourseSteps.{course_step, first_furthest}
use Rattle.steady.proofs.course.furthest.Goals as goal

pub loop-cycle-init : goal.loop-cycle-init
loop-cycle-init c = record {
  late = omega arith;
  ready = c.in_ok-most.ensures.ready;
  budget = c.in_ok-most.ensures.budget;
  found = first_furthest c.args.side c.args.net.now c.args.course.marks c.args.row.now c.args.course.start c.in_ok-most.most c.in_ok-most.ensures.found;
  settles = c.in_ok-most.ensures.settles;
}

pub loop-cycle-preserved : goal.loop-cycle-preserved
loop-cycle-preserved c =
    course_step c.args.net.now c.args.extremes.now c.loop-cycle.extremes c.in_cycle-in-loop-cycle.new.extremes c.args.course.marks c.args.row.now c.args.side c.args.course.start c.loop-cycle.cycle
    c.loop-cycle.most c.in_ok-next.next c.further_of-most.result c.loop-cycle.invariant c.in_ok-next.ensures.ready c.in_ok-next.ensures.budget c.in_ok-next.ensures.found c.in_ok-next.ensures.settles
    c.further_of-most.ensures
