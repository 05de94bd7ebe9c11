use Rattle.std.proofs.Common.{arith}
use Rattle.wave_string.proofs.Walk.{passes_next, kind_at_next, kind_past_end}
use Rattle.wave_string.proofs.wave.kind_at.Goals as goal

pub returns-then-index-place : goal.returns-then-index-place
returns-then-index-place c =
    let step = c.in-Some.ensures.steps in
    rw (c.brick_kind.ensures, c.followed_by-here.ensures, ← c.if-index-place.true, step.1)
    (kind_at_next _ _ c.loop-index.invariant.passed step.0.0)

pub loop-index-preserved : goal.loop-index-preserved
loop-index-preserved c =
    let step = c.in-Some.ensures.steps in
    record {
      passed = rw (step.2, c.followed_by-here.ensures) (passes_next _ _ c.loop-index.invariant.passed step.0.0);
      not_reached = omega (arith, step.1, step.2);
    }

-- the text ended before the place
pub returns : goal.returns
returns c =
    kind_past_end _ c.loop-index.invariant.passed c.in-None.ensures.steps.0.0.0 c.loop-index.invariant.not_reached
