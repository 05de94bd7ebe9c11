use Rattle.std.proofs.Common.{◌≡◌, List}
use Rattle.event_graph.specs.Proof.{ProofLine}
use Rattle.event_graph.specs.Cases.{open_cases}
use Rattle.branch.specs.Step.Cases.{work_left}
use Rattle.branch.specs.Step.Searched.{IsAtCase, IsFindSearched}
use Rattle.branch.proofs.finding.find_times.Given as goal

-- the lines so far leave open just the case at hand, on which the bounds stand, and its siblings
abbrev pub invariant-cases : goal.invariant-cases
invariant-cases g l = record {
  lines : (lines : List ProofLine) × g.S.Scribe.Grew l.fn.scribe lines l.scribe × IsFindSearched l.net lines (open_cases l.net l.search.cases.chosen) l.search.leaves;
  at : IsAtCase l.net l.search;
  room : l.search.cases.room ≡ l.fn.search.cases.room;
  budget : l.search.budget ≡ l.budget;
}

abbrev pub decreases-cases : goal.decreases-cases
decreases-cases g l = work_left l.net l.search.budget l.search.leaves l.search.cases.chosen
