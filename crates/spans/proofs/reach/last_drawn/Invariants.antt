use Rattle.moves.specs.Step.{lent}
use Rattle.spans.specs.Step.{IsDrawnGap, steps_between}
use Rattle.spans.proofs.reach.last_drawn.Given as goal

-- the one value can be drawn, and the other one can't
abbrev pub invariant-loop-alloc : goal.invariant-loop-alloc
invariant-loop-alloc l = IsDrawnGap l.drawn (lent l.numbers) l.fn.direction l.gap

abbrev pub decreases-loop-alloc : goal.decreases-loop-alloc
decreases-loop-alloc l = steps_between l.gap.has.by l.gap.lacks.by
