use Rattle.std.proofs.Common.{◌≡◌, ◌+◌, ◌∙◌, ℕ, List, [], ◌∷◌, ap, subst, sym}
use Rattle.itv_base.specs.declared.names.EdgeName.{EdgeName}
use Rattle.event_graph.specs.Proof.{Bound, Case, ClosesByPath, Path, ProofGoal}
use Rattle.event_graph.specs.Cases.{open_cases, siblings}
use Rattle.branch.specs.declared.search.Search.{Search}
use Rattle.branch.proofs.Entering.{HasClosed, closed_end, closed_next, closed_none, closed_one, path_reads, short_after, short_one, steps_after}
use Rattle.branch.proofs.Results.{if_ok_then, on_err, on_err_then}
use Rattle.branch.proofs.search.close_case.Goals as goal

pub returns-in_err-cut_path-clause-cut : goal.returns-in_err-cut_path-clause-cut
returns-in_err-cut_path-clause-cut g c =
    let net = c.args.net.now in
    let chosen : Case = c.args.search.now.cases.chosen in
    let walk : List EdgeName = c.walk.result.now in
    on_err c.from_residual.result _ (
      Path walk ∷ [],
      c.in_err-cut_path.ensures.cut,
      λ from value best source upper most.
          let goal : ProofGoal = Bound from c.args.to best in
          let closes : ClosesByPath net goal chosen walk = subst (ClosesByPath net goal chosen) (sym c.walk.ensures) (c.find_path.ensures.path from value best source upper most) in
          let leaves : ℕ = c.args.search.now.leaves in
          short_one net goal (open_cases net chosen) chosen leaves leaves c.find_path.new.search [] (Path walk) (closed_none net goal (open_cases net chosen) leaves) tt (path_reads net goal chosen walk closes)
          (ap (λ (s : Search). s.leaves) c.find_path.ensures.others),
    )

pub returns-in-Some-clause-lines : goal.returns-in-Some-clause-lines
returns-in-Some-clause-lines g c =
    let net = c.args.net.now in
    let at : Search = c.args.search.now in
    let mid : Search = c.step_back.new.search in
    let now : Search = c.leave_case.new.search in
    let walk : List EdgeName = c.walk.result.now in
    let one_more : now.leaves ≡ at.leaves + 1 = c.leave_case.ensures.count ∙ ap (λ (s : Search). s.leaves + 1) c.step_back.ensures.others ∙ ap (λ (s : Search). s.leaves + 1) c.find_path.ensures.others in
    let same : at.cases.chosen ≡ mid.cases.chosen =
    sym (ap (λ (s : Search). s.cases.chosen) c.step_back.ensures.others ∙ ap (λ (s : Search). s.cases.chosen) c.find_path.ensures.others) in (
      Path walk ∷ [],
      c.in_ok-cut_path.ensures.grew,
      λ from value best source upper most.
          let goal : ProofGoal = Bound from c.args.to best in
          let closes : ClosesByPath net goal at.cases.chosen walk = subst (ClosesByPath net goal at.cases.chosen) (sym c.walk.ensures) (c.find_path.ensures.path from value best source upper most) in
          let cases : List Case = open_cases net at.cases.chosen in
          let closed = closed_one net goal cases at.cases.chosen at.leaves at.leaves now.leaves [] (Path walk) (closed_none net goal cases at.leaves) tt (path_reads net goal at.cases.chosen walk closes) one_more in
          let Has : Case → Type 0 = λ chosen. HasClosed net goal cases (siblings net chosen) at.leaves now.leaves (Path walk ∷ []) in
          closed_end net goal cases mid now at.leaves (Path walk ∷ []) c.in-Some.end (subst Has same closed) c.in-Some.ensures.next,
    )

pub returns-in-None-clause-lines : goal.returns-in-None-clause-lines
returns-in-None-clause-lines g c =
    let net = c.args.net.now in
    let at : Search = c.args.search.now in
    let mid : Search = c.step_back.new.search in
    let now : Search = c.leave_case.new.search in
    let walk : List EdgeName = c.walk.result.now in
    let one_more : now.leaves ≡ at.leaves + 1 = c.leave_case.ensures.count ∙ ap (λ (s : Search). s.leaves + 1) c.step_back.ensures.others ∙ ap (λ (s : Search). s.leaves + 1) c.find_path.ensures.others in
    let same : at.cases.chosen ≡ mid.cases.chosen =
    sym (ap (λ (s : Search). s.cases.chosen) c.step_back.ensures.others ∙ ap (λ (s : Search). s.cases.chosen) c.find_path.ensures.others) in
    let closed : (goal : ProofGoal) → ClosesByPath net goal at.cases.chosen walk → HasClosed net goal (open_cases net at.cases.chosen) (open_cases net now.cases.chosen) at.leaves now.leaves (Path walk ∷ []) =
    λ goal closes.
    let cases : List Case = open_cases net at.cases.chosen in
    let one = closed_one net goal cases at.cases.chosen at.leaves at.leaves now.leaves [] (Path walk) (closed_none net goal cases at.leaves) tt (path_reads net goal at.cases.chosen walk closes) one_more in
    let Has : Case → Type 0 = λ chosen. HasClosed net goal cases (siblings net chosen) at.leaves now.leaves (Path walk ∷ []) in
    closed_next net goal cases mid now at.leaves (Path walk ∷ []) (subst Has same one) c.in-None.ensures.next.0 in
    if_ok_then c.enter_case.result _ _ c.enter_case.ensures.lines
    (λ entry more. (
      Path walk ∷ more.0,
      g.met.S.Scribe.grew_more _ _ _ _ _ c.in_ok-cut_path.ensures.grew more.1,
      λ from value best source upper most.
          let goal : ProofGoal = Bound from c.args.to best in
          let closes : ClosesByPath net goal at.cases.chosen walk = subst (ClosesByPath net goal at.cases.chosen) (sym c.walk.ensures) (c.find_path.ensures.path from value best source upper most) in
          steps_after net goal (open_cases net at.cases.chosen) (open_cases net now.cases.chosen) at.leaves now.leaves c.enter_case.new.search entry (Path walk ∷ []) more.0 (closed goal closes) (more.2 goal),
    ))

pub returns-in-None-clause-cut : goal.returns-in-None-clause-cut
returns-in-None-clause-cut g c =
    let net = c.args.net.now in
    let at : Search = c.args.search.now in
    let mid : Search = c.step_back.new.search in
    let now : Search = c.leave_case.new.search in
    let walk : List EdgeName = c.walk.result.now in
    let one_more : now.leaves ≡ at.leaves + 1 = c.leave_case.ensures.count ∙ ap (λ (s : Search). s.leaves + 1) c.step_back.ensures.others ∙ ap (λ (s : Search). s.leaves + 1) c.find_path.ensures.others in
    let same : at.cases.chosen ≡ mid.cases.chosen =
    sym (ap (λ (s : Search). s.cases.chosen) c.step_back.ensures.others ∙ ap (λ (s : Search). s.cases.chosen) c.find_path.ensures.others) in
    let closed : (goal : ProofGoal) → ClosesByPath net goal at.cases.chosen walk → HasClosed net goal (open_cases net at.cases.chosen) (open_cases net now.cases.chosen) at.leaves now.leaves (Path walk ∷ []) =
    λ goal closes.
    let cases : List Case = open_cases net at.cases.chosen in
    let one = closed_one net goal cases at.cases.chosen at.leaves at.leaves now.leaves [] (Path walk) (closed_none net goal cases at.leaves) tt (path_reads net goal at.cases.chosen walk closes) one_more in
    let Has : Case → Type 0 = λ chosen. HasClosed net goal cases (siblings net chosen) at.leaves now.leaves (Path walk ∷ []) in
    closed_next net goal cases mid now at.leaves (Path walk ∷ []) (subst Has same one) c.in-None.ensures.next.0 in
    on_err_then c.enter_case.result _ _ c.enter_case.ensures.cut
    (λ more. (
      Path walk ∷ more.0,
      g.met.S.Scribe.cut_after _ _ _ _ _ c.in_ok-cut_path.ensures.grew more.1,
      λ from value best source upper most.
          let goal : ProofGoal = Bound from c.args.to best in
          let closes : ClosesByPath net goal at.cases.chosen walk = subst (ClosesByPath net goal at.cases.chosen) (sym c.walk.ensures) (c.find_path.ensures.path from value best source upper most) in
          short_after net goal (open_cases net at.cases.chosen) (open_cases net now.cases.chosen) at.leaves now.leaves c.enter_case.new.search (Path walk ∷ []) more.0 (closed goal closes) (more.2 goal),
    ))
