use Rattle.std.proofs.Common.{◌≡◌, ◌≤◌, false, true, length, pos, sym, subst, List, arith}
use Rattle.std.proofs.lemmas.List.{take_all}
use Rattle.edge_clauses.specs.declared.basis.WalkStep.{WalkStep}
use Rattle.edge_clauses.specs.Clauses.{IsClause}
use Rattle.edge_clauses.specs.Lines.{Walks}
use Rattle.edge_clauses.proofs.Walking.{no_clause_no_loop, no_step_no_loop, not_back_no_loop, walks_at}
use Rattle.edge_clauses.proofs.walk.is_loop.Goals as goal

pub returns-then-not-branch-clause-not : goal.returns-then-not-branch-clause-not
returns-then-not-branch-clause-not c f loop =
    no_clause_no_loop c.args.net.now c.args.kept.now c.args.event c.args.shown.now c.args.steps.now c.loop-number.number c.loop-number.walk c.step_in-step.result c.step_in-step.ensures
    c.loop-number.invariant (c.in_ok-fill.ensures.none c.if-not-branch.true) loop

pub returns-in-None-clause-not : goal.returns-in-None-clause-not
returns-in-None-clause-not c f loop =
    no_step_no_loop c.args.net.now c.args.kept.now c.args.event c.args.shown.now c.args.steps.now c.loop-number.number c.loop-number.walk c.step_in-step.result c.deref.result.now
    c.step_in-step.ensures c.loop-number.invariant
    (subst (IsClause c.args.net.now c.args.kept.now c.step_in-step.result.basis) (sym c.deref.ensures.value) (c.in_ok-fill.ensures.clause c.if-not-branch.false)) c.in-None.ensures.none loop

pub loop-number-preserved : goal.loop-number-preserved
loop-number-preserved c =
    walks_at c.args.net.now c.args.kept.now c.args.event c.args.shown.now (record { at = c.args.event; sum = pos 0 }) c.args.steps.now c.loop-number.number c.loop-number.walk c.step_in-step.result
    c.deref.result.now c.in-Some.next c.step_in-step.ensures c.loop-number.invariant
    (subst (IsClause c.args.net.now c.args.kept.now c.step_in-step.result.basis) (sym c.deref.ensures.value) (c.in_ok-fill.ensures.clause c.if-not-branch.false)) c.in-Some.ensures.next

pub returns-clause-not : goal.returns-clause-not
returns-clause-not c f loop =
    let past : length c.args.steps.now ≤ c.loop-number.number = omega (arith, c.loop-number-test.false) in
    let walks : Walks c.args.net.now c.args.kept.now c.args.event c.args.shown.now (record { at = c.args.event; sum = pos 0 }) c.args.steps.now c.loop-number.walk =
    subst (λ (steps : List WalkStep). Walks c.args.net.now c.args.kept.now c.args.event c.args.shown.now (record { at = c.args.event; sum = pos 0 }) steps c.loop-number.walk)
    (take_all c.loop-number.number c.args.steps.now past) c.loop-number.invariant in
    not_back_no_loop c.args.net.now c.args.kept.now c.args.event c.args.shown.now c.args.steps.now c.loop-number.walk walks
    (λ h. let t : c.has_come_back.result ≡ true = c.has_come_back.ensures.1 h in let g : c.has_come_back.result ≡ false = f in absurd (cc)) loop
