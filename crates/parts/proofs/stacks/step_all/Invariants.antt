use Rattle.std.proofs.Common.{◌≡◌, length}
use Rattle.parts.proofs.stacks.step_all.Given as goal

-- the stack has two levels and two slots
abbrev pub invariant-loop-row : goal.invariant-loop-row
invariant-loop-row l = (l.trail.levels ≡ 2) × (length l.trail.current.stamps ≡ 2)
