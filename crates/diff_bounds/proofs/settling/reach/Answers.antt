use Rattle.std.proofs.Common.{◌≡◌, ◌∙◌, List, Option, Some, ap, subst, sym}
use Rattle.itv_base.specs.declared.names.EdgeName.{EdgeName}
use Rattle.itv_base.specs.declared.names.EventId.{EventId}
use Rattle.trail.specs.Stack.{TrailView}
use Rattle.diff_bounds.specs.Settled.{IsFeasible, IsSettled, whole}
use Rattle.diff_bounds.specs.Step.Poised.{HasCleared}
use Rattle.diff_bounds.proofs.Starting.{cleared_feasible, cleared_settled, seeded_feasible, seeded_ready}
use Rattle.diff_bounds.proofs.settling.reach.Goals as goal
use Rattle.diff_bounds.proofs.settling.reach.Goals.{After-clear_uppers}

same_edges : (c : After-clear_uppers) → c.clear_uppers.new.trail.current.edges ≡ c.args.trail.now.current.edges
same_edges c = ap (λ (t : TrailView). t.current.edges) c.clear_uppers.ensures.stack

cleared : (c : After-clear_uppers) → HasCleared c.args.net.now.events c.args.trail.now.current.stamps c.clear_uppers.new.trail.current.stamps
cleared c = rw c.events.ensures.count at c.clear_uppers.ensures.cleared

feasible_was : (c : After-clear_uppers) → IsFeasible (whole c.args.net.now c.args.trail.now.current.edges) c.args.trail.now.current.stamps
feasible_was c =
    let P : List EdgeName → Type 0 = λ names. IsFeasible (whole c.args.net.now names) c.args.trail.now.current.stamps in
    subst P (sym c.requires.first.root.edges) c.requires.first.root.feasible

feasible_mid : (c : After-clear_uppers) → IsFeasible (whole c.args.net.now c.clear_uppers.new.trail.current.edges) c.clear_uppers.new.trail.current.stamps
feasible_mid c =
    let P : List EdgeName → Type 0 = λ names. IsFeasible (whole c.args.net.now names) c.clear_uppers.new.trail.current.stamps in
    subst P (sym (same_edges c)) (cleared_feasible c.args.net.now c.args.trail.now.current.edges _ _ c.requires.net (cleared c) (feasible_was c))

pub settle_uppers-requires-clause-ready : goal.settle_uppers-requires-clause-ready
settle_uppers-requires-clause-ready c =
    let at = (goal.at.settle_uppers-requires-clause-ready c).After-clear_uppers in
    let within = rw c.in-Some.is at c.requires.source in (
      c.in-Some.event,
      within,
      seeded_ready c.args.net.now c.args.out.now c.args.chosen.now.arcs c.args.trail.now.current.stamps c.clear_uppers.new.trail c.set_label.new.self c.in-Some.event c.args.pending.now c.requires.net c.requires.out c.requires.chosen
          (same_edges at ∙ c.requires.first.root.edges) within (cleared at) (feasible_mid at) c.set_label.ensures c.requires.marks,
    )

pub settle_uppers-requires-clause-feasible : goal.settle_uppers-requires-clause-feasible
settle_uppers-requires-clause-feasible c =
    let at = (goal.at.settle_uppers-requires-clause-feasible c).After-clear_uppers in
    let within = rw c.in-Some.is at c.requires.source in
    let P : TrailView → Type 0 = λ t. IsFeasible (whole c.args.net.now t.current.edges) t.current.stamps in
    subst P (sym c.set_label.ensures) (seeded_feasible c.args.net.now c.clear_uppers.new.trail.current.edges c.clear_uppers.new.trail.current.stamps c.in-Some.event c.requires.net within (feasible_mid at))

pub returns-in-Some-clause-settled : goal.returns-in-Some-clause-settled
returns-in-Some-clause-settled c =
    let at = (goal.at.returns-in-Some-clause-settled c).After-clear_uppers in
    let within = rw c.in-Some.is at c.requires.source in
    let settled = c.settle_uppers.ensures.settled c.in-Some.event within
    (seeded_ready c.args.net.now c.args.out.now c.args.chosen.now.arcs c.args.trail.now.current.stamps c.clear_uppers.new.trail c.set_label.new.self c.in-Some.event c.args.pending.now c.requires.net c.requires.out c.requires.chosen
    (same_edges at ∙ c.requires.first.root.edges) within (cleared at) (feasible_mid at) c.set_label.ensures c.requires.marks) in
    let same : c.set_label.new.self.current.edges ≡ c.args.trail.now.current.edges = ap (λ (t : TrailView). t.current.edges) c.set_label.ensures ∙ same_edges at in
    let P : List EdgeName → Type 0 = λ names. IsSettled (whole c.args.net.now names) (Some c.in-Some.event) c.settle_uppers.new.trail.current.stamps in
    let Q : Option EventId → Type 0 = λ source. IsSettled (whole c.args.net.now c.args.trail.now.current.edges) source c.settle_uppers.new.trail.current.stamps in
    subst Q (sym c.in-Some.is) (subst P same settled)

pub returns-in_default-clause-settled : goal.returns-in_default-clause-settled
returns-in_default-clause-settled c =
    let at = (goal.at.returns-in_default-clause-settled c).After-clear_uppers in
    let Q : Option EventId → Type 0 = λ source. IsSettled (whole c.args.net.now c.args.trail.now.current.edges) source c.clear_uppers.new.trail.current.stamps in
    subst Q (sym c.in_default.is) (cleared_settled c.args.net.now c.args.trail.now.current.edges c.args.trail.now.current.stamps c.clear_uppers.new.trail.current.stamps c.requires.net (cleared at) (feasible_was at))
