use Rattle.std.proofs.Common.{◌≡◌, ℤ, All, length}
use Rattle.drawn_networks.specs.Drawn.{IsRowOf}
use Rattle.moves.specs.Step.{lent}
use Rattle.spans.specs.Step.{IsInside}
use Rattle.spans.proofs.Framed.{FrontRows}
use Rattle.spans.proofs.frame.framed_rows.Given as goal

-- the first rows frame the drawn ones, with each value
abbrev pub invariant-loop-k : goal.invariant-loop-k
invariant-loop-k l = record {
  frames : (value : ℤ) → IsInside l.interval value → FrontRows l.frame l.counts l.drawn (lent l.numbers) l.k l.rows.items value;
  within : All (IsRowOf l.drawn.net) l.rows.items;
  count : length l.rows.items ≡ l.k;
}
