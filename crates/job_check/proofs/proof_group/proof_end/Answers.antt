use Rattle.std.proofs.Common.{sym, arith, ◌∙◌}
use Rattle.slack_report.specs.Items.{item_view}
use Rattle.job_check.proofs.Taking.{front_more, front_stops, none_at_other}
use Rattle.job_check.proofs.proof_group.proof_end.Goals as goal

pub returns-then-not-is_proof : goal.returns-then-not-is_proof
returns-then-not-is_proof c = record {
  end =
      sym
      (c.loop-number.invariant
      ∙ front_stops c.args.items.now c.loop-number.number
      (none_at_other c.args.items.now c.loop-number.number (item_view c.get-item.result.0) c.get-item.ensures.item (sym c.is_proof.ensures.proof ∙ c.if-not-is_proof.true)));
  within = omega (arith, c.loop-number-test.true, c.len-number-end.ensures.count);
}

pub loop-number-preserved : goal.loop-number-preserved
loop-number-preserved c =
    c.loop-number.invariant ∙ front_more c.args.items.now c.loop-number.number (item_view c.get-item.result.0) c.get-item.ensures.item (sym c.is_proof.ensures.proof ∙ c.if-not-is_proof.false)
