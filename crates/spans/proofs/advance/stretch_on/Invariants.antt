use Rattle.extremes.specs.Ready.{AreTurnsOf}
use Rattle.spans.proofs.advance.stretch_on.Given as goal

-- the turns are still those of the run
abbrev pub invariant-loop-halving : goal.invariant-loop-halving
invariant-loop-halving l = AreTurnsOf l.fn.turns l.turns
