use Rattle.std.specs.List.{AllWithin}
use Rattle.clause_texts.specs.Text.{IsDifference}
use Rattle.clause_texts.proofs.fitting.differences_fit.Given as goal

abbrev pub invariant-loop-edge : goal.invariant-loop-edge
invariant-loop-edge l = AllWithin IsDifference l.edges 0 l.edge-index
