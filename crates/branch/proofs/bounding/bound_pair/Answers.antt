use Rattle.std.proofs.Common.{◌≡◌, ◌≤◌, ◌∙◌, ℤ, Option, [], ap, sym, subst, to_z, of_z, w64, arith, rules, ◌≤ℤ◌}
use Rattle.diff_bounds.specs.declared.fit.Fit.TheVariants.{Loop as Looped, Fits}
use Rattle.event_graph.specs.Proof.{Bound, Case}
use Rattle.event_graph.specs.RootBound.{IsRootBound}
use Rattle.branch.specs.Answers.{IsClosedAt, IsEnclosedBy}
use Rattle.branch.specs.Needed.{IsNeededToBound}
use Rattle.branch.specs.Step.Searched.{IsBoundCut, aimed}
use Rattle.branch.specs.Step.Standing.{IsUpperIn}
use Rattle.branch.specs.declared.best.Best.{Best}
use Rattle.branch.specs.declared.search.Search.{Search}
use Rattle.event_graph.specs.Times.{separation}
use Rattle.branch.proofs.Entering.{at_root}
use Rattle.branch.proofs.Endings.{closed_at, cut_count, enclosed_by, proof_count, root_loop, stopped_count, shown_unbounded}
use Rattle.branch.proofs.Results.{on_err}
use Rattle.branch.proofs.Signs.{passed_separation}
use Rattle.branch.proofs.UsableEdges.{root_upper}
use Rattle.branch.proofs.bounding.bound_pair.Goals as goal

pub unreachable-requires : goal.unreachable-requires
unreachable-requires g c =
    let is : c.start.result ≡ Looped = search rules in
    root_loop c.args.net.now c.start.new.search.bounds.walk c.args.best.now.times.items (c.start.ensures.walk is) c.requires.best.satisfies

pub returns-in-Shown-clause-lines : goal.returns-in-Shown-clause-lines
returns-in-Shown-clause-lines g c =
    let net = c.args.net.now in
    let aim = c.args.aim in
    let now : Search = c.search_bound.new.search in
    let best : Best = c.search_bound.new.best in
    let shown = rw c.in-Shown.is at c.in_ok-search_bound.ensures.ends in
    let ray = c.search_bound.new.trial.ray.items in
    let closed = closed_at net aim best c.args.budget shown.0 now.leaves ray shown.2.0 shown.2.1 in
    let passed : to_z w64 (of_z w64 best.value) ≡ best.value = passed_separation best.value shown.2.0.near in
    (shown.0, shown.1, subst (λ (v : ℤ). IsClosedAt (aimed net aim c.args.budget) v (record { lines = shown.0; leaves = now.leaves; times = best.times.items; ray = ray })) (sym passed) closed, shown.2.1.needed)

pub returns-in-Shown-clause-count : goal.returns-in-Shown-clause-count
returns-in-Shown-clause-count g c =
    let net = c.args.net.now in
    let aim = c.args.aim in
    let now : Search = c.search_bound.new.search in
    let shown = rw c.in-Shown.is at c.in_ok-search_bound.ensures.ends in
    let budget : c.start.new.search.budget ≡ c.args.budget = ap (λ (s : Search). s.budget) c.start.ensures.others in
    let within : now.leaves ≤ c.args.budget = omega (arith, c.search_bound.ensures.within, c.search_bound.ensures.same.budget, budget) in
    proof_count net (Bound aim.from aim.to c.search_bound.new.best.value) (IsNeededToBound net aim.from aim.to aim.known) c.args.budget shown.0 now.leaves c.requires.net within shown.2.1

pub returns-in-Raised-clause-count : goal.returns-in-Raised-clause-count
returns-in-Raised-clause-count g c =
    let net = c.args.net.now in
    let aim = c.args.aim in
    let now : Search = c.search_bound.new.search in
    let raised = rw c.in-Raised.is at c.in_ok-search_bound.ensures.ends in
    let (value, chosen, closed, searched, one_more) = raised.2.1 in
    let budget : c.start.new.search.budget ≡ c.args.budget = ap (λ (s : Search). s.budget) c.start.ensures.others in
    let within : now.leaves ≤ c.args.budget = omega (arith, c.search_bound.ensures.within, c.search_bound.ensures.same.budget, budget) in
    stopped_count net (Bound aim.from aim.to value) (IsNeededToBound net aim.from aim.to aim.known) c.args.budget raised.0 now.leaves closed chosen c.requires.net within (omega (arith, one_more)) searched

pub returns-in-Ended-clause-lines : goal.returns-in-Ended-clause-lines
returns-in-Ended-clause-lines g c =
    let net = c.args.net.now in
    let aim = c.args.aim in
    let now : Search = c.search_bound.new.search in
    let best : Best = c.search_bound.new.best in
    let upper : Option ℤ = c.upper_in-upper.result in
    let ended = rw c.in-Ended.is at c.in_ok-search_bound.ensures.ends in
    let (chosen, searched) = ended.2.2 in
    let none : c.start.new.search.cases.chosen ≡ [] = ap (λ (s : Search). s.cases.chosen) c.start.ensures.others in
    let root : IsRootBound net aim.from aim.to upper =
    root_upper net aim.from aim.to upper (subst (λ (case : Case). IsUpperIn net case aim.from aim.to upper) none (c.upper_in-upper.ensures.upper aim.from c.start.ensures.source)) in
    let budget : c.start.new.search.budget ≡ c.args.budget = ap (λ (s : Search). s.budget) c.start.ensures.others in
    let used : now.leaves ≡ c.args.budget = ended.2.1 ∙ c.search_bound.ensures.same.budget ∙ budget in
    let ray = c.search_bound.new.trial.ray.items in
    let enclosed = enclosed_by net aim upper best c.args.budget ended.0 now.leaves ray chosen c.requires.net root c.upper_in-upper.ensures.within ended.2.0 used searched in
    let passed : to_z w64 (of_z w64 best.value) ≡ best.value = passed_separation best.value ended.2.0.near in
    (ended.0, ended.1, subst (λ (v : ℤ). IsEnclosedBy (aimed net aim c.args.budget) upper v (record { lines = ended.0; leaves = now.leaves; times = best.times.items; ray = ray })) (sym passed) enclosed, searched.needed)

pub returns-in-Ended-clause-count : goal.returns-in-Ended-clause-count
returns-in-Ended-clause-count g c =
    let net = c.args.net.now in
    let aim = c.args.aim in
    let now : Search = c.search_bound.new.search in
    let ended = rw c.in-Ended.is at c.in_ok-search_bound.ensures.ends in
    let (chosen, searched) = ended.2.2 in
    let budget : c.start.new.search.budget ≡ c.args.budget = ap (λ (s : Search). s.budget) c.start.ensures.others in
    let within : now.leaves ≤ c.args.budget = omega (arith, c.search_bound.ensures.within, c.search_bound.ensures.same.budget, budget) in
    stopped_count net (Bound aim.from aim.to c.search_bound.new.best.value) (IsNeededToBound net aim.from aim.to aim.known) c.args.budget ended.0 now.leaves now.leaves chosen c.requires.net within
    (omega arith) searched

pub returns-in_err-search_bound-clause-cut : goal.returns-in_err-search_bound-clause-cut
returns-in_err-search_bound-clause-cut g c =
    let cut = c.in_err-search_bound.ensures.cut in
    let short : IsBoundCut c.args.net.now c.args.aim c.search_bound.new.search.leaves cut.0 = cut.2 in
    on_err c.from_residual.result _ (cut.0, cut.1, (short.value, (short.left, short.searched.reads)), short.searched.needed)

pub returns-in_err-search_bound-clause-count : goal.returns-in_err-search_bound-clause-count
returns-in_err-search_bound-clause-count g c =
    let net = c.args.net.now in
    let aim = c.args.aim in
    let now : Search = c.search_bound.new.search in
    let cut = c.in_err-search_bound.ensures.cut in
    let short : IsBoundCut net aim now.leaves cut.0 = cut.2 in
    let budget : c.start.new.search.budget ≡ c.args.budget = ap (λ (s : Search). s.budget) c.start.ensures.others in
    let within : now.leaves ≤ c.args.budget = omega (arith, c.search_bound.ensures.within, c.search_bound.ensures.same.budget, budget) in
    cut_count net (Bound aim.from aim.to short.value) (IsNeededToBound net aim.from aim.to aim.known) c.args.budget cut.0 now.leaves short.closed short.left c.requires.net within short.count short.searched

pub search_bound-requires-clause-case : goal.search_bound-requires-clause-case
search_bound-requires-clause-case g c =
    let s : Search = c.start.new.search in
    let others = c.start.ensures.others in
    let is : c.start.result ≡ Fits = search rules in
    let none : s.cases.chosen ≡ [] = ap (λ (t : Search). t.cases.chosen) others in
    let zero : s.leaves ≡ 0 = ap (λ (t : Search). t.leaves) others in
    let room : s.cases.room ≡ c.args.search.now.cases.room = ap (λ (t : Search). t.cases.room) others in
    let budget : s.budget ≡ c.args.budget = ap (λ (t : Search). t.budget) others in
    at_root c.args.net.now s none (c.start.ensures.fits is) (omega (arith, room, c.requires.room)) (omega (arith, zero, budget, c.requires.budget))

pub search_bound-requires-clause-root : goal.search_bound-requires-clause-root
search_bound-requires-clause-root g c = ap (λ (s : Search). s.cases.chosen) c.start.ensures.others

pub search_bound-requires-clause-leaves : goal.search_bound-requires-clause-leaves
search_bound-requires-clause-leaves g c = ap (λ (s : Search). s.leaves) c.start.ensures.others

pub returns-in-Raised-clause-lines : goal.returns-in-Raised-clause-lines
returns-in-Raised-clause-lines g c =
    let net = c.args.net.now in
    let aim = c.args.aim in
    let now : Search = c.search_bound.new.search in
    let raised = rw c.in-Raised.is at c.in_ok-search_bound.ensures.ends in
    let (value, chosen, closed, searched, one_more) = raised.2.1 in (
      raised.0,
      raised.1,
      shown_unbounded net aim c.args.budget value raised.0 now.leaves closed c.search_bound.new.best.times.items c.search_bound.new.trial.ray.items chosen raised.2.0 searched one_more,
      searched.needed,
    )

pub returns-in-Shown-clause-made : goal.returns-in-Shown-clause-made
returns-in-Shown-clause-made g c = c.search_bound.ensures.same.bounds.made c.start.ensures.made

pub returns-in-Shown-clause-room : goal.returns-in-Shown-clause-room
returns-in-Shown-clause-room g c = c.search_bound.ensures.same.room ∙ ap (λ (s : Search). s.cases.room) c.start.ensures.others

pub returns-in-Shown-clause-times : goal.returns-in-Shown-clause-times
returns-in-Shown-clause-times g c = let ends = rw c.in-Shown.is at c.in_ok-search_bound.ensures.ends in ends.2.0.satisfies

pub returns-in-Shown-clause-close : goal.returns-in-Shown-clause-close
returns-in-Shown-clause-close g c = let ends = rw c.in-Shown.is at c.in_ok-search_bound.ensures.ends in ends.2.0.close

pub returns-in-Shown-clause-least : goal.returns-in-Shown-clause-least
returns-in-Shown-clause-least g c =
    let ends = rw c.in-Shown.is at c.in_ok-search_bound.ensures.ends in
    subst (λ (v : ℤ). c.args.aim.known ≤ℤ v) (sym ends.2.0.attained) ends.2.0.least

pub returns-in-Ended-clause-made : goal.returns-in-Ended-clause-made
returns-in-Ended-clause-made g c = c.search_bound.ensures.same.bounds.made c.start.ensures.made

pub returns-in-Ended-clause-room : goal.returns-in-Ended-clause-room
returns-in-Ended-clause-room g c = c.search_bound.ensures.same.room ∙ ap (λ (s : Search). s.cases.room) c.start.ensures.others

pub returns-in-Ended-clause-times : goal.returns-in-Ended-clause-times
returns-in-Ended-clause-times g c = let ends = rw c.in-Ended.is at c.in_ok-search_bound.ensures.ends in ends.2.0.satisfies

pub returns-in-Ended-clause-close : goal.returns-in-Ended-clause-close
returns-in-Ended-clause-close g c = let ends = rw c.in-Ended.is at c.in_ok-search_bound.ensures.ends in ends.2.0.close

pub returns-in-Ended-clause-least : goal.returns-in-Ended-clause-least
returns-in-Ended-clause-least g c =
    let ends = rw c.in-Ended.is at c.in_ok-search_bound.ensures.ends in
    subst (λ (v : ℤ). c.args.aim.known ≤ℤ v) (sym ends.2.0.attained) ends.2.0.least

pub returns-in-Raised-clause-made : goal.returns-in-Raised-clause-made
returns-in-Raised-clause-made g c = c.search_bound.ensures.same.bounds.made c.start.ensures.made

pub returns-in-Raised-clause-room : goal.returns-in-Raised-clause-room
returns-in-Raised-clause-room g c = c.search_bound.ensures.same.room ∙ ap (λ (s : Search). s.cases.room) c.start.ensures.others

pub returns-in-Raised-clause-times : goal.returns-in-Raised-clause-times
returns-in-Raised-clause-times g c = let ends = rw c.in-Raised.is at c.in_ok-search_bound.ensures.ends in ends.2.0.satisfies

pub returns-in-Raised-clause-close : goal.returns-in-Raised-clause-close
returns-in-Raised-clause-close g c = let ends = rw c.in-Raised.is at c.in_ok-search_bound.ensures.ends in ends.2.0.close

pub returns-in-Raised-clause-least : goal.returns-in-Raised-clause-least
returns-in-Raised-clause-least g c = let ends = rw c.in-Raised.is at c.in_ok-search_bound.ensures.ends in ends.2.0.least

pub returns-in_err-search_bound-clause-made : goal.returns-in_err-search_bound-clause-made
returns-in_err-search_bound-clause-made g c = c.search_bound.ensures.same.bounds.made c.start.ensures.made

pub returns-in_err-search_bound-clause-room : goal.returns-in_err-search_bound-clause-room
returns-in_err-search_bound-clause-room g c = c.search_bound.ensures.same.room ∙ ap (λ (s : Search). s.cases.room) c.start.ensures.others

pub returns-in_err-search_bound-clause-rose : goal.returns-in_err-search_bound-clause-rose
returns-in_err-search_bound-clause-rose g c = on_err c.from_residual.result _ c.in_err-search_bound.ensures.rose
