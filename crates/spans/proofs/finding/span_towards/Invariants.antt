use Rattle.extremes.specs.Ready.{AreTurnsOf}
use Rattle.spans.proofs.Looks.{WayOf}
use Rattle.std.proofs.Common.{pos}
use Rattle.spans.proofs.finding.span_towards.Given as goal

-- the value is on the way to the goal
abbrev pub invariant-loop-turn : goal.invariant-loop-turn
invariant-loop-turn l = record { way : WayOf l.fn.direction (pos 0) l.goal.by l.at.by; turns : AreTurnsOf l.fn.turns l.turns }
