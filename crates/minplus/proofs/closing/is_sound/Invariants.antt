use Rattle.std.proofs.Common.{◌<◌, ℕ, pos, ◌≤ℤ◌}
use Rattle.minplus.specs.Matrix.{cells}
use Rattle.minplus.proofs.closing.is_sound.Given as goal

abbrev pub invariant-loop-at : goal.invariant-loop-at
invariant-loop-at l = (at : ℕ) → at < l.at → pos 0 ≤ℤ cells l.rows at at
