use Rattle.extremes.specs.Ready.{AreTurnsOf}
use Rattle.spans.proofs.Looks.{WayOf}
use Rattle.spans.proofs.looking.look_ahead.Given as goal

-- the value is on the way to the goal
abbrev pub invariant-loop-round : goal.invariant-loop-round
invariant-loop-round l = record { way : WayOf l.fn.direction l.fn.from.by l.fn.goal.by l.look.at.by; turns : AreTurnsOf l.fn.turns l.turns }
