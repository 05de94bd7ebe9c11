use Rattle.std.proofs.Common.{◌≡◌, ◌+◌, ◌≤◌, [], ◌++◌, All, drop, length, map}
use Rattle.std.specs.List.{flat_map, enumerate_from}
use Rattle.sheet.specs.declared.mark.TheConstants.{MAX_MARKS}
use Rattle.sheet.specs.Lanes.{lane_marks, marks_of, numbered_from}
use Rattle.sheet.specs.Step.{AreMarks, with_marks, span_of, spans_of}
use Rattle.sheet.proofs.lanes.read_marks.Given as goal

abbrev pub invariant-loop-k : goal.invariant-loop-k
invariant-loop-k l = record {
  answer : with_marks l.marks (flat_map lane_marks (enumerate_from l.k (drop l.k l.lanes))) ≡ with_marks [] (marks_of l.lanes);
  distinct : AreMarks l.marks;
  spans : l.spans.items ++ map span_of (numbered_from l.k (length l.marks) (drop l.k l.lanes)) ≡ spans_of l.lanes;
  within : All (λ s. s.first + s.count ≤ MAX_MARKS) l.spans.items;
}
