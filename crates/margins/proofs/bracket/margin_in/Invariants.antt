use Rattle.extremes.specs.Ready.{AreTurnsOf}
use Rattle.margins.specs.Step.{IsBracket}
use Rattle.margins.proofs.Measures.{apart}
use Rattle.margins.proofs.bracket.margin_in.Given as goal

abbrev pub invariant-loop-alloc : goal.invariant-loop-alloc
invariant-loop-alloc l = record { bracket : IsBracket l.sought l.bracket; turns : AreTurnsOf l.fn.turns l.turns }

abbrev pub decreases-loop-alloc : goal.decreases-loop-alloc
decreases-loop-alloc l = apart l.bracket.passes l.bracket.breaks
