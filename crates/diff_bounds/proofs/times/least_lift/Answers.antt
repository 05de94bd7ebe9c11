use Rattle.std.proofs.Common.{ℤ, pos, ◌+ℤ◌, ◌≤ℤ◌, IfSome, SFits, arith, rules, subst, w64}
use Rattle.std.proofs.lemmas.Int.{ints, to_z-of_z}
use Rattle.diff_bounds.specs.Limits.{near_limit}
use Rattle.diff_bounds.proofs.Lifting.{lift_more}
use Rattle.diff_bounds.proofs.times.least_lift.Goals as goal

pub loop-event-preserved : goal.loop-event-preserved
loop-event-preserved c =
    let result = c.lift_above-lift.result in
    let fits : SFits w64 c.lift_above-lift.result = search rules in
    let time_fits : SFits w64 c.feasible_in-time.result = search rules in
    let keeps : c.loop-event.lift ≤ℤ c.lift_above-lift.result = omega (arith, ints, c.lift_above-lift.ensures.keeps, c.loop-event.lift-is) in
    let low : pos 0 ≤ℤ c.loop-event.lift = omega (arith, ints, c.loop-event.lift-is, c.loop-event.invariant.low) in
    let high : c.lift_above-lift.result ≤ℤ pos near_limit = c.lift_above-lift.ensures.high (omega (arith, ints, c.loop-event.lift-is, c.loop-event.invariant.high)) in
    let P : ℤ → Type 0 = λ time. IfSome c.label_in.result (λ l. l ≤ℤ (time +ℤ c.lift_above-lift.result)) in
    let above = subst P (to_z-of_z w64 c.feasible_in-time.result time_fits) c.lift_above-lift.ensures.above in
    rw (to_z-of_z w64 c.lift_above-lift.result fits)
    (record {
      low = omega (arith, ints);
      high = high;
      lifts = lift_more c.args.events c.args.trail.now.current.stamps c.loop-event.event c.loop-event.lift c.lift_above-lift.result c.label_in.result c.feasible_in-time.result c.label_in.ensures c.feasible_in-time.ensures keeps above
          (rw c.loop-event.lift-is at c.loop-event.invariant.lifts);
    })
