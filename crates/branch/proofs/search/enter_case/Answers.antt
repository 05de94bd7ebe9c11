use Rattle.std.proofs.Common.{◌≡◌, ◌+◌, ◌∙◌, List, [], ◌∷◌, ◌++◌, ap, subst, sym, arith, rules}
use Rattle.itv_base.specs.declared.names.EdgeName.{EdgeName}
use Rattle.diff_bounds.specs.declared.fit.Fit.TheVariants.{Loop as Looped}
use Rattle.event_graph.specs.Proof.{Case, ClosesByLoop, Loop}
use Rattle.event_graph.specs.Cases.{open_cases, siblings}
use Rattle.branch.specs.Step.Cases.{work_left}
use Rattle.branch.specs.declared.search.Search.{Search}
use Rattle.branch.proofs.Entering.{HasClosed, closed_end, closed_next, closed_one, keeps_bounds, keeps_then, loop_reads, short_one, steps_here}
use Rattle.branch.proofs.Results.{on_err}
use Rattle.branch.proofs.search.enter_case.Goals as goal

pub returns-then-eq-clause-lines : goal.returns-then-eq-clause-lines
returns-then-eq-clause-lines g c =
    let lines = c.loop-choice.invariant.lines in
    let others = c.enter_choice.ensures.others in (
      lines.0,
      lines.1,
      λ goal. steps_here c.args.net.now goal (open_cases c.args.net.now c.args.search.now.cases.chosen) c.args.search.now.leaves c.loop-choice.search c.enter_choice.new.search lines.0
          (ap (λ (s : Search). s.cases.chosen) others) (ap (λ (s : Search). s.leaves) others) (lines.2 goal),
    )

pub returns-in_err-cut_loop-clause-cut : goal.returns-in_err-cut_loop-clause-cut
returns-in_err-cut_loop-clause-cut g c =
    let net = c.args.net.now in
    let lines = c.loop-choice.invariant.lines in
    let chosen : Case = c.loop-choice.search.cases.chosen in
    let walk : List EdgeName = c.walk.result.now in
    let is : c.enter_choice.result ≡ Looped = search rules in
    let closes : ClosesByLoop net chosen walk = subst (ClosesByLoop net chosen) (sym c.walk.ensures) (c.enter_choice.ensures.walk is) in
    on_err c.from_residual.result _ (
      lines.0 ++ Loop walk ∷ [],
      g.met.S.Scribe.cut_after _ _ _ _ _ lines.1 c.in_err-cut_loop.ensures.cut,
      λ goal.
          short_one net goal (open_cases net c.args.search.now.cases.chosen) chosen c.args.search.now.leaves c.loop-choice.search.leaves c.enter_choice.new.search lines.0 (Loop walk) (lines.2 goal) tt
          (loop_reads net goal chosen walk closes) (ap (λ (s : Search). s.leaves) c.enter_choice.ensures.others),
    )

pub returns-in-Some-leave_case-clause-lines : goal.returns-in-Some-leave_case-clause-lines
returns-in-Some-leave_case-clause-lines g c =
    let net = c.args.net.now in
    let lines = c.loop-choice.invariant.lines in
    let at : Search = c.loop-choice.search in
    let mid : Search = c.enter_choice.new.search in
    let now : Search = c.leave_case.new.search in
    let walk : List EdgeName = c.walk.result.now in
    let others = c.enter_choice.ensures.others in
    let is : c.enter_choice.result ≡ Looped = search rules in
    let closes : ClosesByLoop net at.cases.chosen walk = subst (ClosesByLoop net at.cases.chosen) (sym c.walk.ensures) (c.enter_choice.ensures.walk is) in
    let one_more : now.leaves ≡ at.leaves + 1 = c.leave_case.ensures.count ∙ ap (λ (s : Search). s.leaves + 1) others in
    let same : at.cases.chosen ≡ mid.cases.chosen = sym (ap (λ (s : Search). s.cases.chosen) others) in (
      lines.0 ++ Loop walk ∷ [],
      g.met.S.Scribe.grew_more _ _ _ _ _ lines.1 c.in_ok-cut_loop.ensures.grew,
      λ goal.
          let cases : List Case = open_cases net c.args.search.now.cases.chosen in
          let closed = closed_one net goal cases at.cases.chosen c.args.search.now.leaves at.leaves now.leaves lines.0 (Loop walk) (lines.2 goal) tt (loop_reads net goal at.cases.chosen walk closes) one_more in
          let Has : Case → Type 0 = λ chosen. HasClosed net goal cases (siblings net chosen) c.args.search.now.leaves now.leaves (lines.0 ++ Loop walk ∷ []) in
          closed_end net goal cases mid now c.args.search.now.leaves (lines.0 ++ Loop walk ∷ []) c.in-Some-leave_case.end (subst Has same closed) c.in-Some-leave_case.ensures.next,
    )

pub loop-choice-preserved : goal.loop-choice-preserved
loop-choice-preserved g c =
    let net = c.args.net.now in
    let inv = c.loop-choice.invariant in
    let lines = inv.lines in
    let at : Search = c.loop-choice.search in
    let mid : Search = c.enter_choice.new.search in
    let now : Search = c.leave_case.new.search in
    let walk : List EdgeName = c.walk.result.now in
    let others = c.enter_choice.ensures.others in
    let next = c.in-None.ensures.next in
    let is : c.enter_choice.result ≡ Looped = search rules in
    let closes : ClosesByLoop net at.cases.chosen walk = subst (ClosesByLoop net at.cases.chosen) (sym c.walk.ensures) (c.enter_choice.ensures.walk is) in
    let one_more : now.leaves ≡ at.leaves + 1 = c.leave_case.ensures.count ∙ ap (λ (s : Search). s.leaves + 1) others in
    let same : at.cases.chosen ≡ mid.cases.chosen = sym (ap (λ (s : Search). s.cases.chosen) others) in
    let keeps = keeps_then net at mid now (keeps_bounds net at mid others c.enter_choice.ensures.bounds) c.leave_case.ensures.same in
    let work : work_left net mid.budget mid.leaves mid.cases.chosen ≡ work_left net at.budget at.leaves at.cases.chosen = ap (λ (s : Search). work_left net s.budget s.leaves s.cases.chosen) others in
    record {
      lines = (
        lines.0 ++ Loop walk ∷ [],
        g.met.S.Scribe.grew_more _ _ _ _ _ lines.1 c.in_ok-cut_loop.ensures.grew,
        λ goal.
            let cases : List Case = open_cases net c.args.search.now.cases.chosen in
            let closed = closed_one net goal cases at.cases.chosen c.args.search.now.leaves at.leaves now.leaves lines.0 (Loop walk) (lines.2 goal) tt (loop_reads net goal at.cases.chosen walk closes) one_more in
            let Has : Case → Type 0 = λ chosen. HasClosed net goal cases (siblings net chosen) c.args.search.now.leaves now.leaves (lines.0 ++ Loop walk ∷ []) in
            closed_next net goal cases mid now c.args.search.now.leaves (lines.0 ++ Loop walk ∷ []) (subst Has same closed) next.0,
      );
      below = record {
        case = next.0.case;
        below = next.0.below;
        room = omega (arith, inv.below.room, keeps.room);
        left = next.1;
      };
      some = next.0.some;
      same = keeps_then net c.args.search.now at now inv.same keeps;
      work = omega (arith, c.in-None.ensures.work, work, inv.work);
    }
