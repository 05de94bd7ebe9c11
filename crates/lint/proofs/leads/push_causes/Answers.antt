use Rattle.std.proofs.Common.{◌++◌, ap, take_all, ◌∙◌, arith}
use Rattle.std.specs.List.{flat_map}
use Rattle.lint.specs.Leads.{cause_leads}
use Rattle.lint.proofs.EachLists.{flat_more}
use Rattle.lint.proofs.leads.push_causes.Goals as goal

pub loop-cause-preserved : goal.loop-cause-preserved
loop-cause-preserved c =
    flat_more (cause_leads c.args.design.now.sheets c.args.home c.args.kind c.args.to) c.args.causes.now c.loop-cause.cause-index c.cause-item.result c.args.leads.now.items c.loop-cause.leads.items c.push_cause.new.leads.items c.loop-cause-test.true c.cause-item.is c.loop-cause.invariant
    c.in_ok-push_cause.ensures.pushed

pub returns : goal.returns
returns c = record {
  pushed = c.loop-cause.invariant ∙ ap (λ xs. c.args.leads.now.items ++ flat_map (cause_leads c.args.design.now.sheets c.args.home c.args.kind c.args.to) xs) (take_all c.loop-cause.cause-index c.args.causes.now (omega (arith, c.loop-cause-test.false)));
}
