use Rattle.std.proofs.Common.{◌≡◌, ◌<◌, ℕ, Some, slice_get}
use Rattle.drawn_networks.specs.declared.row.Row.{Row}
use Rattle.moves.specs.Step.{AreKindEnds}
use Rattle.moves.proofs.reading.read_rows.Given as goal

-- the ends of the first rows are within the limit
abbrev pub invariant-loop-k : goal.invariant-loop-k
invariant-loop-k l = (j : ℕ) → j < l.k → (r : Row) → slice_get l.drawn.rows j ≡ Some r → AreKindEnds r.kind
