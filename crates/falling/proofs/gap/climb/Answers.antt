use Rattle.std.proofs.Common.{ℤ, pos, get_or, SFits, w64, refl, rules, subst}
use Rattle.std.proofs.lemmas.Int.{to_z-of_z}
use Rattle.falling.specs.Step.Rays.{IsStepTo}
use Rattle.falling.proofs.Climbing.{level_small, level_within, pass_first, pass_next}
use Rattle.falling.proofs.gap.climb.Goals as goal

pub loop-value-init : goal.loop-value-init
loop-value-init c = pass_first c.args.net.now c.args.values.now c.args.limits.width c.args.level.value c.requires.climbed

pub widened-requires-clause-high : goal.widened-requires-clause-high
widened-requires-clause-high c =
    level_small c.args.net.now c.loop-value.best.value c.requires.limits.small
    (level_within c.args.net.now c.args.values.now c.loop-value.best.value c.requires.count c.loop-value.invariant.climbed.high)

pub loop-value-preserved : goal.loop-value-preserved
loop-value-preserved c =
    let fits : SFits w64 (get_or c.args.values.now c.loop-value.value-index (pos 0)) = search rules in
    let step : IsStepTo c.loop-value.best.value c.widened.result.value (get_or c.args.values.now c.loop-value.value-index (pos 0)) c.step-best.result.value =
    subst (λ (z : ℤ). IsStepTo c.loop-value.best.value c.widened.result.value z c.step-best.result.value)
    (to_z-of_z w64 (get_or c.args.values.now c.loop-value.value-index (pos 0)) fits) c.step-best.ensures in
    pass_next c.args.net.now c.args.values.now c.args.limits.width c.args.level.value c.loop-value.best.value c.widened.result.value
    (get_or c.args.values.now c.loop-value.value-index (pos 0)) c.step-best.result.value c.loop-value.value-index c.requires.limits.width_is c.loop-value-test.true refl
    c.widened.ensures step c.loop-value.invariant
