use Rattle.extremes.specs.Ready.{AreTurnsOf}
use Rattle.margins.specs.Step.{IsClimbOf}
use Rattle.margins.proofs.Measures.{apart}
use Rattle.margins.proofs.passing.margin_above.Given as goal

abbrev pub invariant-loop-by : goal.invariant-loop-by
invariant-loop-by l = record { climb : IsClimbOf l.sought l.climb; turns : AreTurnsOf l.fn.turns l.turns }

abbrev pub decreases-loop-by : goal.decreases-loop-by
decreases-loop-by l = apart l.climb.passes l.sought.reach.most
