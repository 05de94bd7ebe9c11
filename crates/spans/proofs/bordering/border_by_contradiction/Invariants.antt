use Rattle.extremes.specs.Ready.{AreTurnsOf}
use Rattle.spans.specs.Step.{IsGapIn, steps_between}
use Rattle.spans.proofs.bordering.border_by_contradiction.Given as goal

-- some times satisfy with the one value, and none with the other one
abbrev pub invariant-loop-alloc : goal.invariant-loop-alloc
invariant-loop-alloc l = record { gap : IsGapIn l.sought l.fn.direction l.fn.from.by l.fn.at.by l.gap; turns : AreTurnsOf l.fn.turns l.turns }

abbrev pub decreases-loop-alloc : goal.decreases-loop-alloc
decreases-loop-alloc l = steps_between l.gap.has.by l.gap.lacks.by
