use Rattle.std.proofs.Common.{◌≡◌, ◌<◌, [], ap, length, refl, subst, arith}
use Rattle.event_graph.specs.Proof.{Case}
use Rattle.event_graph.specs.Cases.{DecisionsView, first_of, open_cases}
use Rattle.branch.specs.Step.Cases.{work_left}
use Rattle.branch.specs.Step.Searched.{SearchSteps, StepsShort}
use Rattle.event_graph.proofs.Choices.{others_free}
use Rattle.branch.proofs.CaseCounts.{free_within, split_falls}
use Rattle.branch.proofs.Entering.{short_none}
use Rattle.branch.proofs.Results.{if_ok_then, on_err, on_err_then}
use Rattle.branch.proofs.search.split_case.Goals as goal

pub push-requires-clause-constraint : goal.push-requires-clause-constraint
push-requires-clause-constraint g c =
    let within : c.args.number < length c.args.net.now.constraints = free_within c.args.net.now c.args.search.now.cases.chosen c.args.number c.requires.free in
    omega (arith, within, c.requires.case.room)

pub push-requires-clause-free : goal.push-requires-clause-free
push-requires-clause-free g c = others_free c.args.search.now.cases.chosen c.args.number c.requires.free.may.1

pub returns-clause-lines : goal.returns-clause-lines
returns-clause-lines g c =
    let net = c.args.net.now in
    let same : c.push.new.self.chosen ≡ first_of c.args.number c.args.search.now.cases.chosen = ap (λ (d : DecisionsView). d.chosen) c.push.ensures in
    if_ok_then c.enter_case.result _ _ c.enter_case.ensures.lines
    (λ entry more. (
      more.0,
      g.met.S.Scribe.grew_more _ _ _ _ _ c.in_ok-split.ensures.grew more.1,
      λ goal. subst (λ (chosen : Case). SearchSteps net goal (open_cases net chosen) c.args.search.now.leaves c.enter_case.new.search entry more.0) same (more.2 goal),
    ))

pub returns-clause-cut : goal.returns-clause-cut
returns-clause-cut g c =
    let net = c.args.net.now in
    let same : c.push.new.self.chosen ≡ first_of c.args.number c.args.search.now.cases.chosen = ap (λ (d : DecisionsView). d.chosen) c.push.ensures in
    on_err_then c.enter_case.result _ _ c.enter_case.ensures.cut
    (λ more. (
      more.0,
      g.met.S.Scribe.cut_after _ _ _ _ _ c.in_ok-split.ensures.grew more.1,
      λ goal. subst (λ (chosen : Case). StepsShort net goal (open_cases net chosen) c.args.search.now.leaves c.enter_case.new.search more.0) same (more.2 goal),
    ))

pub returns-in_err-split-clause-cut : goal.returns-in_err-split-clause-cut
returns-in_err-split-clause-cut g c =
    let search = c.args.search.now in
    on_err c.from_residual.result _
    ([], c.in_err-split.ensures.cut, λ goal. short_none c.args.net.now goal (open_cases c.args.net.now (first_of c.args.number search.cases.chosen)) search.leaves search refl)

pub returns-clause-work : goal.returns-clause-work
returns-clause-work g c =
    let net = c.args.net.now in
    let search = c.args.search.now in
    let same : c.push.new.self.chosen ≡ first_of c.args.number search.cases.chosen = ap (λ (d : DecisionsView). d.chosen) c.push.ensures in
    let falls = split_falls net search.budget search.leaves search.cases.chosen c.args.number c.requires.free in
    let work : work_left net search.budget search.leaves c.push.new.self.chosen ≡ work_left net search.budget search.leaves (first_of c.args.number search.cases.chosen) =
    ap (work_left net search.budget search.leaves) same in
    if_ok_then c.enter_case.result _ _ c.enter_case.ensures.work (λ entry most is. let within = most is in omega (arith, within, work, falls))
