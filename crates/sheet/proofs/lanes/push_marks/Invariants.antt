use Rattle.std.proofs.Common.{◌≡◌, drop}
use Rattle.sheet.specs.Lanes.{lane_marks}
use Rattle.sheet.specs.Step.{AreMarks, with_marks}
use Rattle.sheet.proofs.LaneLists.{marks_left}
use Rattle.sheet.proofs.lanes.push_marks.Given as goal

abbrev pub invariant-loop-place : goal.invariant-loop-place
invariant-loop-place l = record {
  answer : with_marks l.marks (marks_left l.number l.lane l.place (drop l.place l.node)) ≡ with_marks l.fn.marks (lane_marks (l.number, l.lane));
  distinct : AreMarks l.fn.marks → AreMarks l.marks;
}
