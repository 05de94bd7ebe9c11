use Rattle.std.proofs.Common.{Some, ap, sym, ◌∙◌}
use Rattle.slack_report.specs.Items.{item_view}
use Rattle.event_graph.specs.Lines.{lent_line}
use Rattle.cert_checker.specs.Checking.{goal_view}
use Rattle.job_check.proofs.Taking.{none_at_other, other_proof, taking_done, taking_more, taking_refused, tells_none, tells_some, when_ok}
use Rattle.job_check.proofs.proof_group.check_lines.Goals as goal

pub returns-then-is_err-clause-checks : goal.returns-then-is_err-clause-checks
returns-then-is_err-clause-checks c =
    let fault = tells_some c.take.result _ (sym c.is_err.ensures.value ∙ c.if-is_err.true) c.take.ensures.fault in
    taking_refused c.args.net.now (goal_view c.args.goal) c.args.items.now c.args.start c.loop-number.number c.args.checker.now.room c.loop-number.checker c.loop-number.invariant
    (lent_line c.in-Proof.line) fault.0 (c.get-item.ensures.item ∙ ap (λ i. Some (item_view i)) c.in-Proof.is) fault.1

pub returns-in_default : goal.returns-in_default
returns-in_default c = record {
  checks =
      taking_done c.args.net.now (goal_view c.args.goal) c.args.items.now c.args.start c.loop-number.number c.args.checker.now.room c.loop-number.checker c.loop-number.invariant c.is_done.result
      (none_at_other c.args.items.now c.loop-number.number (item_view c.get-item.result.0) c.get-item.ensures.item (other_proof c.get-item.result.0 c.in_default.not-Proof))
      (c.is_done.ensures.done c.args.net.now);
  room = c.loop-number.invariant.same_room;
}

pub loop-number-preserved : goal.loop-number-preserved
loop-number-preserved c =
    let fine = sym c.is_err.ensures.value ∙ c.if-is_err.false in
    taking_more c.args.net.now (goal_view c.args.goal) c.args.items.now c.args.start c.loop-number.number c.args.checker.now.room c.loop-number.checker c.loop-number.invariant
    (lent_line c.in-Proof.line) c.take.new.self (c.get-item.ensures.item ∙ ap (λ i. Some (item_view i)) c.in-Proof.is) (tells_none c.take.result _ fine c.take.ensures.fault)
    (when_ok c.take.result _ fine c.take.ensures.taken) c.take.ensures.stands c.take.ensures.goal
