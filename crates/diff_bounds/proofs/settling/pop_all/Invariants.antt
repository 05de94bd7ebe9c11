use Rattle.std.proofs.Common.{◌≡◌, length}
use Rattle.diff_bounds.specs.Settled.{bottom}
use Rattle.diff_bounds.proofs.settling.pop_all.Given as goal

abbrev pub invariant-loop-trail : goal.invariant-loop-trail
invariant-loop-trail l = record {
  levels : l.trail.levels ≡ l.fn.trail.levels;
  bottom_same : bottom l.trail.current l.trail.below ≡ bottom l.fn.trail.current l.fn.trail.below;
}

abbrev pub decreases-loop-trail : goal.decreases-loop-trail
decreases-loop-trail l = length l.trail.below
