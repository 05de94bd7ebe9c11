use Rattle.std.proofs.Common.{◌≡◌, ◌<◌, ℕ, Some, map, take, slice_get}
use Rattle.drawn_networks.specs.declared.row.Row.{Row}
use Rattle.moves.specs.Moving.{row_moved}
use Rattle.moves.specs.Step.{lent, moved_by}
use Rattle.moves.proofs.MovedRows.{CanMoveRow}
use Rattle.moves.proofs.rows.moved_rows.Given as goal

-- the first rows are moved, and each range that is drawn among them can be drawn when moved
abbrev pub invariant-loop-k : goal.invariant-loop-k
invariant-loop-k l = record {
  rows : l.rows.items ≡ map (row_moved (moved_by l.by) l.drawn (lent l.numbers)) (take l.k l.drawn.rows);
  can : (j : ℕ) → j < l.k → (r : Row) → slice_get l.drawn.rows j ≡ Some r → CanMoveRow (moved_by l.by) l.drawn (lent l.numbers) r;
}
