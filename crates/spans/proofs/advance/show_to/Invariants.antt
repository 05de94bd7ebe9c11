use Rattle.extremes.specs.Ready.{AreTurnsOf}
use Rattle.spans.proofs.Showing.{IsStretchTo}
use Rattle.spans.proofs.advance.show_to.Given as goal

-- the values up to here were shown, at least one in each turn
abbrev pub invariant-loop-turn : goal.invariant-loop-turn
invariant-loop-turn l = record {
  stretch : IsStretchTo l.sought l.fn.aim l.fn.direction l.fn.from.by l.fn.goal.by l.stretch.done.by l._turn;
  turns : AreTurnsOf l.fn.turns l.turns;
}
