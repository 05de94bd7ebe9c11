use Rattle.std.proofs.Common.{◌≡◌, ◌<◌, ℕ}
use Rattle.moves.specs.Step.{lent, moved_by}
use Rattle.moves.proofs.Moved.{CanMove, front_moved}
use Rattle.moves.proofs.moving.moved_network.Given as goal

-- the first constraints are moved, and each range that is drawn among them can be drawn when moved
abbrev pub invariant-loop-constraint : goal.invariant-loop-constraint
invariant-loop-constraint l = record {
  net : l.moved ≡ front_moved (moved_by l.by) l.drawn (lent l.numbers) l.constraint;
  can : (j : ℕ) → j < l.constraint → CanMove (moved_by l.by) l.drawn (lent l.numbers) j;
}
