use Rattle.std.proofs.Common.{◌≡◌, ◌<◌, ℕ}
use Rattle.moves.specs.Step.{lent, moved_by}
use Rattle.moves.proofs.Moved.{CauseCanMove, front_causes}
use Rattle.moves.proofs.moving.moved_causes.Given as goal

-- the first causes are moved, and each range that is drawn among them can be drawn when moved
abbrev pub invariant-loop-k : goal.invariant-loop-k
invariant-loop-k l = record {
  causes : l.causes.items ≡ front_causes (moved_by l.by) l.drawn (lent l.numbers) l.constraint l.k;
  can : (j : ℕ) → j < l.k → CauseCanMove (moved_by l.by) l.drawn (lent l.numbers) l.constraint j;
}
