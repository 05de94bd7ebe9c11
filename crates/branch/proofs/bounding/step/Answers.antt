use Rattle.std.proofs.Common.{◌≡◌, ◌≤ℤ◌, ◌<ℤ◌, ◌∙◌, ℤ, Bool, List, All, [], ◌∷◌, length, sym, refl, subst, arith, ap}
use Rattle.std.proofs.lemmas.Int.{ints}
use Rattle.event_graph.specs.Proof.{Bound, Split}
use Rattle.event_graph.specs.Satisfying.{Satisfies}
use Rattle.event_graph.specs.Times.{separation}
use Rattle.branch.specs.Step.Raising.{IsNearSeparation}
use Rattle.branch.specs.Work.{IsClose}
use Rattle.branch.proofs.RaisingSets.{near_close}
use Rattle.branch.specs.Step.Searched.{IsBestSoFar, AreRays, IsOpen}
use Rattle.branch.specs.declared.best.Best.{Best}
use Rattle.branch.proofs.Advancing.{path_cut, path_goes, split_cut, split_goes}
use Rattle.branch.proofs.Looking.{near_separation}
use Rattle.branch.proofs.Results.{on_err}
use Rattle.branch.proofs.Signs.{passed_separation}
use Rattle.branch.proofs.bounding.step.Goals as goal

pub returns-in_err-split_case-in-Splits-clause-cut : goal.returns-in_err-split_case-in-Splits-clause-cut
returns-in_err-split_case-in-Splits-clause-cut g c =
    let net = c.args.net.now in
    let aim = c.args.aim in
    let best : ℤ = c.args.best.now.value in
    let open' : IsOpen net aim.from aim.to best c.args.search.now.cases.chosen c.in-Splits.number =
    subst (λ (v : ℤ). IsOpen net aim.from aim.to v c.args.search.now.cases.chosen c.in-Splits.number) (passed_separation best c.requires.best.near) c.in-Splits.ensures.looks in
    let cut = c.in_err-split_case-in-Splits.ensures.cut in
    on_err c.from_residual.result _ (
      Split c.in-Splits.number ∷ cut.0,
      cut.1,
      split_cut net aim best c.args.search.now.leaves cut.0 c.args.search.now.cases.chosen c.in-Splits.number c.split_case.new.search c.requires.best.least open' (cut.2 (Bound aim.from aim.to best)),
    )

pub returns-in_err-close_case-in-Beaten-clause-cut : goal.returns-in_err-close_case-in-Beaten-clause-cut
returns-in_err-close_case-in-Beaten-clause-cut g c =
    let net = c.args.net.now in
    let aim = c.args.aim in
    let best : ℤ = c.args.best.now.value in
    let looked = c.in-Beaten.ensures.looks in
    let within : looked.0 ≤ℤ best = subst (λ (v : ℤ). looked.0 ≤ℤ v) (passed_separation best c.requires.best.near) looked.2 in
    let cut = c.in_err-close_case-in-Beaten.ensures.cut in
    let short = cut.2 aim.from looked.0 best c.requires.source looked.1 within in
    on_err c.from_residual-in_err-close_case-in-Beaten.result _
    (cut.0, cut.1, path_cut net aim best best c.args.search.now.leaves cut.0 c.args.search.now.cases.chosen c.close_case.new.search (omega (arith, ints)) short)

pub returns-in_err-close_case-in-Attained-clause-cut : goal.returns-in_err-close_case-in-Attained-clause-cut
returns-in_err-close_case-in-Attained-clause-cut g c =
    let net = c.args.net.now in
    let aim = c.args.aim in
    let best : ℤ = c.args.best.now.value in
    let value : ℤ = c.in-Attained.value in
    let looked = c.in-Attained.ensures.looks in
    let past : best <ℤ value = subst (λ (v : ℤ). v <ℤ value) (passed_separation best c.requires.best.near) looked.1 in
    let cut = c.in_err-close_case-in-Attained.ensures.cut in
    let short = cut.2 aim.from value value c.requires.source looked.0 (omega (arith, ints)) in
    on_err c.from_residual-in_err-close_case-in-Attained.result _
    (cut.0, cut.1, path_cut net aim best value c.args.search.now.leaves cut.0 c.args.search.now.cases.chosen c.close_case-in-Attained.new.search (omega (arith, ints)) short)

pub returns-in_ok-split_case-in-Splits-clause-advances : goal.returns-in_ok-split_case-in-Splits-clause-advances
returns-in_ok-split_case-in-Splits-clause-advances g c =
    let net = c.args.net.now in
    let aim = c.args.aim in
    let best : ℤ = c.args.best.now.value in
    let open' : IsOpen net aim.from aim.to best c.args.search.now.cases.chosen c.in-Splits.number =
    subst (λ (v : ℤ). IsOpen net aim.from aim.to v c.args.search.now.cases.chosen c.in-Splits.number) (passed_separation best c.requires.best.near) c.in-Splits.ensures.looks in
    let lines = c.in_ok-split_case-in-Splits.ensures.lines in (
      Split c.in-Splits.number ∷ lines.0,
      lines.1,
      (
        c.requires.best,
        λ earlier searched.
            split_goes net aim best c.args.search.now.leaves earlier lines.0 c.args.search.now.cases.chosen c.split_case.new.search c.in_ok-split_case-in-Splits.field-0 c.in-Splits.number
            c.requires.best.least open' (lines.2 (Bound aim.from aim.to best)) searched,
      ),
    )

pub returns-in_ok-split_case-in-Splits-clause-work : goal.returns-in_ok-split_case-in-Splits-clause-work
returns-in_ok-split_case-in-Splits-clause-work g c = λ is. c.in_ok-split_case-in-Splits.ensures.work (cc)

pub returns-in_ok-close_case-in-Beaten-clause-advances : goal.returns-in_ok-close_case-in-Beaten-clause-advances
returns-in_ok-close_case-in-Beaten-clause-advances g c =
    let net = c.args.net.now in
    let aim = c.args.aim in
    let best : ℤ = c.args.best.now.value in
    let looked = c.in-Beaten.ensures.looks in
    let within : looked.0 ≤ℤ best = subst (λ (v : ℤ). looked.0 ≤ℤ v) (passed_separation best c.requires.best.near) looked.2 in
    let lines = c.in_ok-close_case-in-Beaten.ensures.lines in (
      lines.0,
      lines.1,
      (
        c.requires.best,
        λ earlier searched.
            path_goes net aim best best c.args.search.now.leaves earlier lines.0 c.args.search.now.cases.chosen c.close_case.new.search c.in_ok-close_case-in-Beaten.field-0 (omega (arith, ints))
            (lines.2 aim.from looked.0 best c.requires.source looked.1 within) searched,
      ),
    )

pub returns-in_ok-close_case-in-Attained-clause-advances : goal.returns-in_ok-close_case-in-Attained-clause-advances
returns-in_ok-close_case-in-Attained-clause-advances g c =
    let net = c.args.net.now in
    let aim = c.args.aim in
    let was : ℤ = c.args.best.now.value in
    let value : ℤ = c.in-Attained.value in
    let candidate : List ℤ = c.look_at_case.new.trial.candidate.items in
    let best : Best = c.take.new.self in
    let looked = c.in-Attained.ensures.looks in
    let past : was <ℤ value = subst (λ (v : ℤ). v <ℤ value) (passed_separation was c.requires.best.near) looked.1 in
    let counted : length candidate ≡ net.events = looked.2.count in
    let near_at : IsNearSeparation (separation candidate aim.from aim.to) =
    near_separation candidate aim.from aim.to looked.4 (omega (arith, counted, c.requires.from)) (omega (arith, counted, c.requires.to)) in
    let near : IsNearSeparation value = subst IsNearSeparation looked.3 near_at in
    let is_value : best.value ≡ value = c.take.ensures.value ∙ passed_separation value near in
    let is_times : best.times.items ≡ candidate = c.take.ensures.times ∙ c.deref.ensures.value in
    let up : was ≤ℤ best.value = subst (λ (v : ℤ). was ≤ℤ v) (sym is_value) (omega (arith, ints, past)) in
    let upper : value ≤ℤ best.value = subst (λ (v : ℤ). value ≤ℤ v) (sym is_value) (omega (arith, ints)) in
    let are_best : IsBestSoFar net aim best = record {
      satisfies = subst (λ (times : List ℤ). Satisfies times net) (sym is_times) looked.2;
      attained = subst (λ (times : List ℤ). separation times aim.from aim.to ≡ best.value) (sym is_times) (looked.3 ∙ sym is_value);
      least = omega (arith, ints, c.requires.best.least, up);
      near = subst IsNearSeparation (sym is_value) near;
      close = subst (λ (times : List ℤ). All IsClose times) (sym is_times) (near_close candidate looked.4);
    } in
    let lines = c.in_ok-close_case-in-Attained.ensures.lines in (
      lines.0,
      lines.1,
      (
        are_best,
        λ earlier searched.
            path_goes net aim was best.value c.args.search.now.leaves earlier lines.0 c.args.search.now.cases.chosen c.close_case-in-Attained.new.search c.in_ok-close_case-in-Attained.field-0 up
            (lines.2 aim.from value best.value c.requires.source looked.0 upper) searched,
      ),
    )

pub returns-in_ok-close_case-in-Attained-clause-work : goal.returns-in_ok-close_case-in-Attained-clause-work
returns-in_ok-close_case-in-Attained-clause-work g c = λ is. c.in_ok-close_case-in-Attained.ensures.work (cc)

pub returns-in-Unbounded-clause-advances : goal.returns-in-Unbounded-clause-advances
returns-in-Unbounded-clause-advances g c =
    let net = c.args.net.now in
    let aim = c.args.aim in
    let candidate : List ℤ = c.look_at_case.new.trial.candidate.items in
    let ray : List Bool = c.look_at_case.new.trial.ray.items in
    let times : List ℤ = c.take-in-Unbounded.new.self.times.items in
    let is_times : times ≡ candidate = c.take-in-Unbounded.ensures.times ∙ c.deref-in-Unbounded.ensures.value in
    let looked = c.in-Unbounded.ensures.looks in
    let rays : AreRays net aim candidate ray = record { satisfies = looked.0; raises = looked.1; least = looked.2; close = looked.3 } in
    ([], g.met.S.Scribe.grew_none _, (subst (λ (xs : List ℤ). AreRays net aim xs ray) (sym is_times) rays, refl, refl))

pub take-requires : goal.take-requires
take-requires g c = ap (λ (xs : List ℤ). length xs) c.deref.ensures.value ∙ c.look_at_case.ensures.trial.candidate ∙ sym c.requires.best.satisfies.count

pub split_case-requires-clause-free : goal.split_case-requires-clause-free
split_case-requires-clause-free g c = c.in-Splits.ensures.looks.free

pub close_case-requires-clause-value : goal.close_case-requires-clause-value
close_case-requires-clause-value g c = (c.in-Beaten.ensures.looks.0, c.in-Beaten.ensures.looks.1)

pub close_case-requires-clause-source : goal.close_case-requires-clause-source
close_case-requires-clause-source g c = (c.args.aim.from, c.requires.source)

pub close_case-in-Attained-requires-clause-value : goal.close_case-in-Attained-requires-clause-value
close_case-in-Attained-requires-clause-value g c = (c.in-Attained.value, c.in-Attained.ensures.looks.0)

pub close_case-in-Attained-requires-clause-source : goal.close_case-in-Attained-requires-clause-source
close_case-in-Attained-requires-clause-source g c = (c.args.aim.from, c.requires.source)

pub returns-in_err-split_case-in-Splits-clause-same : goal.returns-in_err-split_case-in-Splits-clause-same
returns-in_err-split_case-in-Splits-clause-same g c = c.split_case.ensures.same

pub returns-in_err-split_case-in-Splits-clause-within : goal.returns-in_err-split_case-in-Splits-clause-within
returns-in_err-split_case-in-Splits-clause-within g c = on_err c.from_residual.result _ c.in_err-split_case-in-Splits.ensures.within

pub returns-in_err-split_case-in-Splits-clause-rose : goal.returns-in_err-split_case-in-Splits-clause-rose
returns-in_err-split_case-in-Splits-clause-rose g c = on_err c.from_residual.result _ c.in_err-split_case-in-Splits.ensures.rose

pub returns-in_ok-split_case-in-Splits-clause-same : goal.returns-in_ok-split_case-in-Splits-clause-same
returns-in_ok-split_case-in-Splits-clause-same g c = c.split_case.ensures.same

pub returns-in_ok-split_case-in-Splits-clause-ends : goal.returns-in_ok-split_case-in-Splits-clause-ends
returns-in_ok-split_case-in-Splits-clause-ends g c = c.in_ok-split_case-in-Splits.ensures.ends

pub returns-in_err-split_case-in-Splits-clause-places : goal.returns-in_err-split_case-in-Splits-clause-places
returns-in_err-split_case-in-Splits-clause-places g c = c.requires.best.satisfies.count

pub returns-in_ok-split_case-in-Splits-clause-places : goal.returns-in_ok-split_case-in-Splits-clause-places
returns-in_ok-split_case-in-Splits-clause-places g c = c.requires.best.satisfies.count

pub returns-in_err-close_case-in-Beaten-clause-same : goal.returns-in_err-close_case-in-Beaten-clause-same
returns-in_err-close_case-in-Beaten-clause-same g c = c.close_case.ensures.same

pub returns-in_err-close_case-in-Beaten-clause-within : goal.returns-in_err-close_case-in-Beaten-clause-within
returns-in_err-close_case-in-Beaten-clause-within g c = on_err c.from_residual-in_err-close_case-in-Beaten.result _ c.in_err-close_case-in-Beaten.ensures.within

pub returns-in_err-close_case-in-Beaten-clause-rose : goal.returns-in_err-close_case-in-Beaten-clause-rose
returns-in_err-close_case-in-Beaten-clause-rose g c = on_err c.from_residual-in_err-close_case-in-Beaten.result _ c.in_err-close_case-in-Beaten.ensures.rose

pub returns-in_ok-close_case-in-Beaten-clause-same : goal.returns-in_ok-close_case-in-Beaten-clause-same
returns-in_ok-close_case-in-Beaten-clause-same g c = c.close_case.ensures.same

pub returns-in_ok-close_case-in-Beaten-clause-ends : goal.returns-in_ok-close_case-in-Beaten-clause-ends
returns-in_ok-close_case-in-Beaten-clause-ends g c = c.in_ok-close_case-in-Beaten.ensures.ends

pub returns-in_err-close_case-in-Beaten-clause-places : goal.returns-in_err-close_case-in-Beaten-clause-places
returns-in_err-close_case-in-Beaten-clause-places g c = c.requires.best.satisfies.count

pub returns-in_ok-close_case-in-Beaten-clause-places : goal.returns-in_ok-close_case-in-Beaten-clause-places
returns-in_ok-close_case-in-Beaten-clause-places g c = c.requires.best.satisfies.count

pub returns-in_err-close_case-in-Attained-clause-same : goal.returns-in_err-close_case-in-Attained-clause-same
returns-in_err-close_case-in-Attained-clause-same g c = c.close_case-in-Attained.ensures.same

pub returns-in_err-close_case-in-Attained-clause-within : goal.returns-in_err-close_case-in-Attained-clause-within
returns-in_err-close_case-in-Attained-clause-within g c = on_err c.from_residual-in_err-close_case-in-Attained.result _ c.in_err-close_case-in-Attained.ensures.within

pub returns-in_err-close_case-in-Attained-clause-rose : goal.returns-in_err-close_case-in-Attained-clause-rose
returns-in_err-close_case-in-Attained-clause-rose g c = on_err c.from_residual-in_err-close_case-in-Attained.result _ c.in_err-close_case-in-Attained.ensures.rose

pub returns-in_ok-close_case-in-Attained-clause-same : goal.returns-in_ok-close_case-in-Attained-clause-same
returns-in_ok-close_case-in-Attained-clause-same g c = c.close_case-in-Attained.ensures.same

pub returns-in_ok-close_case-in-Attained-clause-ends : goal.returns-in_ok-close_case-in-Attained-clause-ends
returns-in_ok-close_case-in-Attained-clause-ends g c = c.in_ok-close_case-in-Attained.ensures.ends

pub returns-in_err-close_case-in-Attained-clause-places : goal.returns-in_err-close_case-in-Attained-clause-places
returns-in_err-close_case-in-Attained-clause-places g c = ap (λ (xs : List ℤ). length xs) (c.take.ensures.times ∙ c.deref.ensures.value) ∙ c.look_at_case.ensures.trial.candidate

pub returns-in_ok-close_case-in-Attained-clause-places : goal.returns-in_ok-close_case-in-Attained-clause-places
returns-in_ok-close_case-in-Attained-clause-places g c = ap (λ (xs : List ℤ). length xs) (c.take.ensures.times ∙ c.deref.ensures.value) ∙ c.look_at_case.ensures.trial.candidate

pub returns-in_ok-close_case-in-Beaten-clause-work : goal.returns-in_ok-close_case-in-Beaten-clause-work
returns-in_ok-close_case-in-Beaten-clause-work g c = λ is. c.in_ok-close_case-in-Beaten.ensures.work (cc)

pub returns-in-Unbounded-clause-same : goal.returns-in-Unbounded-clause-same
returns-in-Unbounded-clause-same g c = record { room = refl; budget = refl; bounds = record { source = refl; made = λ made. made } }

pub returns-in-Unbounded-clause-places : goal.returns-in-Unbounded-clause-places
returns-in-Unbounded-clause-places g c =
    ap (λ (xs : List ℤ). length xs) (c.take-in-Unbounded.ensures.times ∙ c.deref-in-Unbounded.ensures.value) ∙ c.look_at_case.ensures.trial.candidate
