use Rattle.std.proofs.Common.{◌≡◌, ◌∙◌, ◌⊎◌, ◌≤ℤ◌, ℤ, Bool, List, All, length, to_z, of_z, w64, sym, ap, subst, rules}
use Rattle.std.specs.Vec.{with_items}
use Rattle.std.proofs.lemmas.List.{with_items_is}
use Rattle.event_graph.specs.Bounds.{IsRay}
use Rattle.event_graph.specs.RootBound.{MeetsAlways}
use Rattle.event_graph.specs.Satisfying.{Breaks, Satisfies}
use Rattle.event_graph.specs.Times.{separation}
use Rattle.branch.specs.Step.Cases.{IsFree}
use Rattle.branch.specs.Step.Raising.{AreRaised}
use Rattle.branch.specs.Work.{IsClose}
use Rattle.branch.proofs.Looking.{open_at_ray, raised_meets, ray_at}
use Rattle.branch.proofs.Signs.{passed_separation}
use Rattle.branch.proofs.UsableEdges.{meets_always}
use Rattle.branch.proofs.look.look_at_ray.Goals as goal
use Rattle.branch.proofs.look.look_at_ray.Goals.{After-raise}

-- the candidate and the ray have what was written
first_written : (c : After-raise) → (with_items c.args.trial.now.candidate c.ray_in.new.out).items ≡ c.ray_in.new.out
first_written c =
    let same : length c.ray_in.new.out ≡ length c.args.trial.now.candidate.items = c.ray_in.auto.out ∙ ap (λ (xs : List ℤ). length xs) c.deref_mut.ensures.value in
    with_items_is c.args.trial.now.candidate c.ray_in.new.out (same ∙ sym c.args.trial.now.candidate.ok.0)

ray_written : (c : After-raise) → (with_items c.args.trial.now.ray c.ray_in.new.ray).items ≡ c.ray_in.new.ray
ray_written c =
    let same : length c.ray_in.new.ray ≡ length c.args.trial.now.ray.items = c.ray_in.auto.ray ∙ ap (λ (xs : List Bool). length xs) c.deref_mut-2.ensures.value in
    with_items_is c.args.trial.now.ray c.ray_in.new.ray (same ∙ sym c.args.trial.now.ray.ok.0)

written : (c : After-raise) → (with_items (with_items c.args.trial.now.candidate c.ray_in.new.out) c.raise.new.times).items ≡ c.raise.new.times
written c =
    let first = with_items c.args.trial.now.candidate c.ray_in.new.out in
    let same : length c.raise.new.times ≡ length first.items = c.raise.auto.times ∙ ap (λ (xs : List ℤ). length xs) c.deref_mut-3.ensures.value in
    with_items_is first c.raise.new.times (same ∙ sym first.ok.0)

-- so the times were raised along the ray of the case
raised : (c : After-raise) → AreRaised c.ray_in.new.ray c.args.aim.from c.args.aim.to c.args.aim.known c.ray_in.new.out c.raise.new.times
raised c =
    let aim = c.args.aim in
    let times : List ℤ = c.raise.new.times in
    let passed : to_z w64 (of_z w64 aim.known) ≡ aim.known = passed_separation aim.known c.requires.known in
    subst (λ (k : ℤ). AreRaised c.ray_in.new.ray aim.from aim.to k c.ray_in.new.out times) passed
    (subst (λ (old : List ℤ). AreRaised c.ray_in.new.ray aim.from aim.to (to_z w64 (of_z w64 aim.known)) old times) (c.deref_mut-3.ensures.value ∙ first_written c)
    (subst (λ (set : List Bool). AreRaised set aim.from aim.to (to_z w64 (of_z w64 aim.known)) c.deref_mut-3.result.now times) (c.deref.ensures.value ∙ ray_written c) c.raise.ensures))

pub first_broken-requires-clause-always : goal.first_broken-requires-clause-always
first_broken-requires-clause-always c =
    let at = (goal.at.first_broken-requires-clause-always c).After-raise in
    let net = c.args.net.now in
    let aim = c.args.aim in
    let chosen = c.args.search.now.cases.chosen in
    let times : List ℤ = c.raise.new.times in
    let meets = raised_meets net chosen aim.from aim.to aim.known c.ray_in.new.out times c.ray_in.new.ray c.ray_in.ensures (raised at) in
    subst (λ (xs : List ℤ). MeetsAlways xs net) (sym (c.deref-2.ensures.value ∙ written at)) (meets_always net chosen times meets)

pub returns-in-None-clause-looks : goal.returns-in-None-clause-looks
returns-in-None-clause-looks c =
    λ best.
    let at = (goal.at.returns-in-None-clause-looks c).After-raise in
    let net = c.args.net.now in
    let aim = c.args.aim in
    let times : List ℤ = c.raise.new.times in
    let ray : List Bool = c.ray_in.new.ray in
    let are_raised = raised at in
    let satisfies : Satisfies c.deref-2.result.now net = search rules in
    let here : Satisfies times net = subst (λ (xs : List ℤ). Satisfies xs net) (c.deref-2.ensures.value ∙ written at) satisfies in
    let is_ray : IsRay net aim.from aim.to times ray =
    ray_at net c.args.search.now.cases.chosen aim.from aim.to aim.known c.ray_in.new.out times ray c.requires.net c.ray_in.ensures are_raised here in
    let P : List ℤ → List Bool → Type 0 = λ xs set. Satisfies xs net × IsRay net aim.from aim.to xs set × (aim.known ≤ℤ separation xs aim.from aim.to) × All IsClose xs in
    subst (λ (xs : List ℤ). P xs (with_items c.args.trial.now.ray ray).items) (sym (written at))
    (subst (λ (set : List Bool). P times set) (sym (ray_written at)) (here, is_ray, are_raised.reached, are_raised.close))

pub returns-in-Some-clause-looks : goal.returns-in-Some-clause-looks
returns-in-Some-clause-looks c =
    λ best.
    let at = (goal.at.returns-in-Some-clause-looks c).After-raise in
    let net = c.args.net.now in
    let aim = c.args.aim in
    let chosen = c.args.search.now.cases.chosen in
    let times : List ℤ = c.raise.new.times in
    let meets = raised_meets net chosen aim.from aim.to aim.known c.ray_in.new.out times c.ray_in.new.ray c.ray_in.ensures (raised at) in
    let splits : Breaks times net c.nearest_open.result ⊎ IsFree net chosen c.nearest_open.result =
    subst (λ (xs : List ℤ). Breaks xs net c.nearest_open.result ⊎ IsFree net chosen c.nearest_open.result) (c.deref-in-Some.ensures.value ∙ written at) c.nearest_open.ensures.open in
    open_at_ray net aim.from aim.to best chosen times c.nearest_open.result c.requires.net c.requires.case c.requires.upper meets splits
