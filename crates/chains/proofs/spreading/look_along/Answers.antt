use Rattle.std.proofs.Common.{◌≡◌, ℕ, max, arith, subst}
use Rattle.chains.specs.Step.Spreading.{LooksAt}
use Rattle.chains.proofs.Looked.{HasCauseBelow, causes_all, causes_more, causes_none}
use Rattle.chains.proofs.spreading.look_along.Goals as goal

pub loop-cause-init : goal.loop-cause-init
loop-cause-init c = causes_none c.args.net.now c.args.times.now c.args.number c.args.spread.now

pub loop-cause-preserved : goal.loop-cause-preserved
loop-cause-preserved c =
    causes_more c.args.net.now c.args.times.now c.args.number c.loop-cause.cause c.args.spread.now c.loop-cause.spread _ _ c.loop-cause.invariant c.look.ensures
    c.look-in-loop-cause.ensures

pub returns : goal.returns
returns c =
    let last : c.loop-cause.cause ≡ max c.cause_count.result 1 = omega (arith, c.max-cause-end.ensures) in
    causes_all c.args.net.now c.args.times.now c.args.number c.cause_count.result c.args.spread.now _ c.requires.net c.cause_count.ensures.count
    (subst (λ (n : ℕ). LooksAt c.args.net.now c.args.times.now (HasCauseBelow c.args.number n) c.args.spread.now c.loop-cause.spread) last c.loop-cause.invariant)
