use Rattle.std.proofs.Common.{◌≡◌, length}
use Rattle.event_graph.specs.Cases.{IsCase, siblings}
use Rattle.cert_checker.proofs.checker.next_case.Given as goal

-- the other open cases are the cases of the choices that are left
abbrev pub invariant-loop-choice : goal.invariant-loop-choice
invariant-loop-choice l = record {
  others : siblings l.net l.fn.chosen.chosen ≡ siblings l.net l.chosen.chosen;
  case : IsCase l.net l.chosen.chosen;
  room : l.chosen.room ≡ l.fn.chosen.room;
}

abbrev pub decreases-loop-choice : goal.decreases-loop-choice
decreases-loop-choice l = length l.chosen.chosen
