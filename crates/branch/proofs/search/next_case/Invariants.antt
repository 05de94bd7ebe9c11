use Rattle.std.proofs.Common.{◌≡◌, length}
use Rattle.event_graph.specs.Cases.{siblings}
use Rattle.branch.specs.Step.Cases.{IsSearchCase}
use Rattle.branch.specs.Step.Searched.{Keeps}
use Rattle.branch.specs.Step.Standing.{StandsBelow}
use Rattle.branch.proofs.search.next_case.Given as goal

-- the siblings of the case at the start are the siblings of the choices that are left
abbrev pub invariant-loop-choice : goal.invariant-loop-choice
invariant-loop-choice l = record {
  others : siblings l.net l.fn.search.cases.chosen ≡ siblings l.net l.search.cases.chosen;
  case : IsSearchCase l.net l.search.cases.chosen;
  below : StandsBelow l.net l.search.cases.chosen l.search.bounds;
  same : Keeps l.net l.fn.search l.search;
  leaves : l.search.leaves ≡ l.fn.search.leaves;
}

abbrev pub decreases-loop-choice : goal.decreases-loop-choice
decreases-loop-choice l = length l.search.cases.chosen
