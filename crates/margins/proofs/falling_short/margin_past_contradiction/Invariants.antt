use Rattle.extremes.specs.Ready.{AreTurnsOf}
use Rattle.margins.specs.Step.{IsGapOf}
use Rattle.margins.proofs.Measures.{apart}
use Rattle.margins.proofs.falling_short.margin_past_contradiction.Given as goal

abbrev pub invariant-loop-alloc : goal.invariant-loop-alloc
invariant-loop-alloc l = record { gap : IsGapOf l.sought l.gap; turns : AreTurnsOf l.fn.turns l.turns }

abbrev pub decreases-loop-alloc : goal.decreases-loop-alloc
decreases-loop-alloc l = apart l.gap.contradicts l.gap.breaks
