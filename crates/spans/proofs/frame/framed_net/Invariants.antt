use Rattle.std.proofs.Common.{◌≡◌, ℤ, length}
use Rattle.moves.specs.Step.{lent}
use Rattle.spans.specs.Step.{IsInside}
use Rattle.spans.proofs.Framed.{FrontNet}
use Rattle.spans.proofs.frame.framed_net.Given as goal

-- the first constraints frame the drawn ones, with each value
abbrev pub invariant-loop-constraint : goal.invariant-loop-constraint
invariant-loop-constraint l = record {
  frames : (value : ℤ) → IsInside l.interval value → FrontNet l.kind l.counts l.drawn (lent l.numbers) l.constraint l.frame.constraints value;
  events : l.frame.events ≡ l.drawn.net.events;
  count : length l.frame.constraints ≡ l.constraint;
}
