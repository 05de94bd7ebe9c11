use Rattle.std.proofs.Common.{◌≡◌, ◌∙◌, ◌<ℤ◌, ℤ, List, length, All, to_z, of_z, w64, sym, ap, subst, rules}
use Rattle.std.specs.Vec.{with_items}
use Rattle.std.proofs.lemmas.Int.{to_z-of_z}
use Rattle.std.proofs.lemmas.List.{with_items_is}
use Rattle.event_graph.specs.RootBound.{MeetsAlways}
use Rattle.event_graph.specs.Satisfying.{Breaks, Satisfies}
use Rattle.event_graph.specs.Times.{IsTime, separation}
use Rattle.diff_bounds.specs.Limits.{IsTimely}
use Rattle.branch.specs.Step.Standing.{HasUpper}
use Rattle.branch.proofs.Looking.{near_times, open_at_bound}
use Rattle.branch.proofs.UsableEdges.{meets_always}
use Rattle.branch.proofs.look.look_at_bound.Goals as goal
use Rattle.branch.proofs.look.look_at_bound.Goals.{After-times_in}

-- the candidate has the times that were written
written : (c : After-times_in) → (with_items c.args.trial.now.candidate c.times_in.new.out).items ≡ c.times_in.new.out
written c =
    let same : length c.times_in.new.out ≡ length c.args.trial.now.candidate.items = c.times_in.auto.out ∙ ap (λ (xs : List ℤ). length xs) c.deref_mut.ensures.value in
    with_items_is c.args.trial.now.candidate c.times_in.new.out (same ∙ sym c.args.trial.now.candidate.ok.0)

pub nearest_broken-requires-clause-times : goal.nearest_broken-requires-clause-times
nearest_broken-requires-clause-times c =
    let at = (goal.at.nearest_broken-requires-clause-times c).After-times_in in
    subst (λ (xs : List ℤ). All IsTime xs) (sym (c.deref.ensures.value ∙ written at)) (near_times c.times_in.new.out c.times_in.ensures.near)

pub nearest_broken-requires-clause-always : goal.nearest_broken-requires-clause-always
nearest_broken-requires-clause-always c =
    let at = (goal.at.nearest_broken-requires-clause-always c).After-times_in in
    let net = c.args.net.now in
    let always = meets_always net c.args.search.now.cases.chosen c.times_in.new.out c.times_in.ensures.meets in
    subst (λ (xs : List ℤ). MeetsAlways xs net) (sym (c.deref.ensures.value ∙ written at)) always

pub returns-in-None-clause-looks : goal.returns-in-None-clause-looks
returns-in-None-clause-looks c =
    λ best past.
    let at = (goal.at.returns-in-None-clause-looks c).After-times_in in
    let net = c.args.net.now in
    let aim = c.args.aim in
    let out : List ℤ = c.times_in.new.out in
    let upper : ℤ = c.args.upper in
    let passed : to_z w64 (of_z w64 upper) ≡ upper = to_z-of_z w64 upper c.ranges.upper in
    let satisfies : Satisfies c.deref.result.now net = search rules in
    let here : Satisfies out net = subst (λ (xs : List ℤ). Satisfies xs net) (c.deref.ensures.value ∙ written at) satisfies in
    let attained : separation out aim.from aim.to ≡ upper = c.times_in.ensures.attained aim.from aim.to upper c.requires.source c.requires.to c.requires.value in
    let P : List ℤ → ℤ → Type 0 = λ xs v.
    HasUpper c.args.search.now.bounds aim.to v × (best <ℤ v) × Satisfies xs net × (separation xs aim.from aim.to ≡ v) × All IsTimely xs in
    subst (λ (xs : List ℤ). P xs (to_z w64 (of_z w64 upper))) (sym (written at))
    (subst (λ (v : ℤ). P out v) (sym passed) (c.requires.value, past, here, attained, c.times_in.ensures.near))

pub returns-in-Some-clause-looks : goal.returns-in-Some-clause-looks
returns-in-Some-clause-looks c =
    λ best past.
    let at = (goal.at.returns-in-Some-clause-looks c).After-times_in in
    let net = c.args.net.now in
    let aim = c.args.aim in
    let out : List ℤ = c.times_in.new.out in
    let upper : ℤ = c.args.upper in
    let breaks : Breaks out net c.in-Some.number =
    subst (λ (xs : List ℤ). Breaks xs net c.in-Some.number) (c.deref.ensures.value ∙ written at) c.in-Some.ensures.broken in
    let attained : separation out aim.from aim.to ≡ upper = c.times_in.ensures.attained aim.from aim.to upper c.requires.source c.requires.to c.requires.value in
    open_at_bound net aim.from aim.to best upper c.args.search.now.cases.chosen out c.in-Some.number c.requires.net c.requires.case c.requires.upper c.times_in.ensures.meets attained past breaks
