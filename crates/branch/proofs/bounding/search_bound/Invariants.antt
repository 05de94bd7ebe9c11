use Rattle.std.proofs.Common.{◌≡◌, List, Some}
use Rattle.event_graph.specs.Proof.{ProofLine}
use Rattle.event_graph.specs.Cases.{open_cases}
use Rattle.branch.specs.Step.Cases.{work_left}
use Rattle.branch.specs.Step.Searched.{IsBestSoFar, IsAtCase, IsBoundSearched, IsTrialFor, Keeps}
use Rattle.branch.proofs.bounding.search_bound.Given as goal

-- the lines so far leave open just the case at hand, on which the bounds stand, and its siblings
abbrev pub invariant-cases : goal.invariant-cases
invariant-cases g l = record {
  lines : (lines : List ProofLine) × g.S.Scribe.Grew l.fn.scribe lines l.scribe
      × IsBoundSearched l.net l.aim l.best.value lines (open_cases l.net l.search.cases.chosen) l.search.leaves;
  at : IsAtCase l.net l.search;
  source : l.search.bounds.source ≡ Some l.aim.from;
  best : IsBestSoFar l.net l.aim l.best;
  trial : IsTrialFor l.net l.trial;
  same : Keeps l.net l.fn.search l.search;
}

abbrev pub decreases-cases : goal.decreases-cases
decreases-cases g l = work_left l.net l.search.budget l.search.leaves l.search.cases.chosen
