use Rattle.falling.proofs.Climbing.{IsPass}
use Rattle.falling.proofs.gap.climb.Given as goal

-- the pass so far
abbrev pub invariant-loop-value : goal.invariant-loop-value
invariant-loop-value l = IsPass l.net l.values l.limits.width l.fn.level.value l.value-index l.best.value
