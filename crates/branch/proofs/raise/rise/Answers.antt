use Rattle.std.proofs.Common.{◌≡◌, ◌<◌, ◌≤ℤ◌, ◌+ℤ◌, ◌-ℤ◌, ℕ, ℤ, pos, true, false, length, to_z, of_z, w64, get_or, subst, arith}
use Rattle.std.proofs.lemmas.Option.{slice_get_within}
use Rattle.diff_bounds.specs.Limits.{IsTimely}
use Rattle.branch.proofs.RaisingSets.{lower_more, rise_of, upper_more}
use Rattle.branch.proofs.Signs.{passed_near, passed_rise, passed_separation}
use Rattle.branch.proofs.raise.rise.Goals as goal

pub loop-event-preserved : goal.loop-event-preserved
loop-event-preserved c =
    let i : ℕ = c.loop-event.event in
    let times = c.args.times.now in
    let inv = c.loop-event.invariant in
    let span = c.widened-span.ensures in
    let time : ℤ = get_or times i (pos 0) in
    let near : IsTimely time = c.requires.near i (pos 0) (omega arith) in
    let passed : to_z w64 (of_z w64 time) ≡ time = passed_near time near in
    record {
      highest = span.highest;
      lowest = span.lowest;
      others = upper_more c.args.set.now times i c.loop-event.span.highest c.widened-span.result.highest span.rises (λ out. subst (λ t. t ≤ℤ c.widened-span.result.highest) passed (span.others out)) inv.others;
      set = lower_more c.args.set.now times i c.loop-event.span.lowest c.widened-span.result.lowest span.falls (λ in_set. subst (λ t. c.widened-span.result.lowest ≤ℤ t) passed (span.set in_set)) inv.set;
    }

pub returns : goal.returns
returns c =
    let times = c.args.times.now in
    let inv = c.loop-event.invariant in
    let enough = c.enough.ensures in
    let from_within : c.args.from.0 < length times = omega (arith, slice_get_within c.args.set.now c.args.from.0 false c.requires.lacks) in
    let to_within : c.args.to.0 < length times = omega (arith, slice_get_within c.args.set.now c.args.to.0 true c.requires.holds) in
    let first : ℤ = get_or times c.args.from.0 (pos 0) in
    let last : ℤ = get_or times c.args.to.0 (pos 0) in
    let passed_first : to_z w64 (of_z w64 first) ≡ first = passed_near first (c.requires.near c.args.from.0 (pos 0) from_within) in
    let passed_last : to_z w64 (of_z w64 last) ≡ last = passed_near last (c.requires.near c.args.to.0 (pos 0) to_within) in
    let passed_reach : to_z w64 (of_z w64 c.args.reach) ≡ c.args.reach = passed_separation c.args.reach c.requires.reach in
    let passed : to_z w64 (of_z w64 c.enough.result) ≡ c.enough.result = passed_rise c.enough.result enough.low enough.high in
    let reached : c.args.reach ≤ℤ ((last -ℤ first) +ℤ c.enough.result) =
    subst (λ r. r ≤ℤ ((last -ℤ first) +ℤ c.enough.result)) passed_reach
    (subst (λ f. to_z w64 (of_z w64 c.args.reach) ≤ℤ ((last -ℤ f) +ℤ c.enough.result)) passed_first
    (subst (λ l. to_z w64 (of_z w64 c.args.reach) ≤ℤ ((l -ℤ to_z w64 (of_z w64 first)) +ℤ c.enough.result)) passed_last enough.reached)) in
    rw passed
    (rise_of c.args.set.now c.args.from c.args.to c.args.reach times c.loop-event.span.lowest c.loop-event.span.highest c.enough.result c.requires.count
    (λ k within. inv.others k (omega arith)) (λ k within. inv.set k (omega arith)) enough.low enough.high enough.gap reached)
