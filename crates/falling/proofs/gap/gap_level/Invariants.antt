use Rattle.falling.specs.Step.Rays.{IsClimbed, above}
use Rattle.falling.proofs.gap.gap_level.Given as goal

-- the level was reached in steps
abbrev pub invariant-passes : goal.invariant-passes
invariant-passes l = IsClimbed l.net l.values l.level.value

abbrev pub decreases-passes : goal.decreases-passes
decreases-passes l = above l.level.value l.values
