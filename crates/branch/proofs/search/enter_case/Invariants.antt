use Rattle.std.proofs.Common.{◌-◌, ◌<◌, ◌≤◌, List, length}
use Rattle.event_graph.specs.Proof.{ProofGoal, ProofLine}
use Rattle.event_graph.specs.Cases.{open_cases}
use Rattle.branch.specs.Step.Cases.{work_left}
use Rattle.branch.specs.Step.Searched.{IsBelowCase, Keeps}
use Rattle.branch.proofs.Entering.{HasClosed}
use Rattle.branch.proofs.search.enter_case.Given as goal

-- the lines so far close the cases before the one at hand
abbrev pub invariant-loop-choice : goal.invariant-loop-choice
invariant-loop-choice g l = record {
  lines : (lines : List ProofLine) × g.S.Scribe.Grew l.fn.scribe lines l.scribe
      × ((goal : ProofGoal)
      → HasClosed l.net goal (open_cases l.net l.fn.search.cases.chosen) (open_cases l.net l.search.cases.chosen) l.fn.search.leaves l.search.leaves lines);
  below : IsBelowCase l.net l.search;
  some : 0 < length l.search.cases.chosen;
  same : Keeps l.net l.fn.search l.search;
  work : work_left l.net l.search.budget l.search.leaves l.search.cases.chosen ≤ work_left l.net l.fn.search.budget l.fn.search.leaves l.fn.search.cases.chosen;
}

abbrev pub decreases-loop-choice : goal.decreases-loop-choice
decreases-loop-choice g l = l.search.budget - l.search.leaves
