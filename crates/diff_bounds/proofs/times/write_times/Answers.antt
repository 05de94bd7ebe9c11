use Rattle.std.proofs.Common.{◌≡◌, ◌∙◌, ◌<◌, ℤ, SFits, ap, arith, length, of_z, rules, set, to_z, w64}
use Rattle.std.proofs.lemmas.Int.{to_z-of_z}
use Rattle.diff_bounds.proofs.Lifting.{all_timely, times_more}
use Rattle.diff_bounds.proofs.times.write_times.Goals as goal

pub loop-event-preserved : goal.loop-event-preserved
loop-event-preserved c =
    let fits : SFits w64 c.time_in.result = search rules in
    let same : to_z w64 (of_z w64 c.time_in.result) ≡ c.time_in.result = to_z-of_z w64 c.time_in.result fits in
    let long : length c.loop-event.out ≡ length c.args.out.now = c.loop-event.auto.out in
    let within : c.loop-event.event < length c.loop-event.out = omega (arith, c.requires.count) in
    times_more _ c.loop-event.out c.put_time.new.out c.loop-event.event c.time_in.result within (c.put_time.ensures ∙ ap (λ (z : ℤ). set c.loop-event.out c.loop-event.event z) same) c.time_in.ensures.value
    c.time_in.ensures.range c.loop-event.invariant

pub returns-clause-range : goal.returns-clause-range
returns-clause-range c = all_timely c.loop-event.out c.args.events (c.loop-event.auto.out ∙ c.requires.count) (λ v below. c.loop-event.invariant.range v (omega arith))
