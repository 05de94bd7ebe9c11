use Rattle.std.proofs.Common.{◌++◌, ap, take_all, ◌∙◌, arith}
use Rattle.std.specs.List.{flat_map}
use Rattle.lint.specs.Step.{lead_met}
use Rattle.lint.proofs.EachLists.{flat_more}
use Rattle.lint.proofs.both.push_across.Goals as goal

pub loop-lead-preserved : goal.loop-lead-preserved
loop-lead-preserved c =
    flat_more (lead_met c.args.tables.now c.args.texts.now) c.args.leads.now c.loop-lead.lead-index c.lead-item.result c.args.warnings.now.items c.loop-lead.warnings.items c.push_lead.new.warnings.items c.loop-lead-test.true c.lead-item.is c.loop-lead.invariant
    c.in_ok-push_lead.ensures.pushed

pub returns : goal.returns
returns c = record {
  pushed = c.loop-lead.invariant ∙ ap (λ xs. c.args.warnings.now.items ++ flat_map (lead_met c.args.tables.now c.args.texts.now) xs) (take_all c.loop-lead.lead-index c.args.leads.now (omega (arith, c.loop-lead-test.false)));
}
