use Rattle.std.proofs.Common.{◌≡◌, ℤ, map, take}
use Rattle.event_graph.specs.declared.cause.Cause.{Cause}
use Rattle.moves.specs.Step.{causes_at, lent}
use Rattle.spans.specs.Step.{IsInside}
use Rattle.spans.proofs.Framed.{FrontCauses}
use Rattle.spans.proofs.frame.framed_causes.Given as goal

-- the first causes frame the drawn ones, with each value
abbrev pub invariant-loop-k : goal.invariant-loop-k
invariant-loop-k l = record {
  frames : (value : ℤ) → IsInside l.interval value → FrontCauses l.kind l.counts l.drawn (lent l.numbers) l.constraint l.target l.k l.causes.items value;
  events : map (λ (c : Cause). c.event) l.causes.items ≡ map (λ (c : Cause). c.event) (take l.k (causes_at l.drawn.net l.constraint));
}
