use Rattle.std.proofs.Common.{◌++◌, ap, take_all, ◌∙◌, arith}
use Rattle.std.specs.List.{flat_map}
use Rattle.lint.specs.Never.{rule_never}
use Rattle.lint.proofs.EachLists.{flat_more}
use Rattle.lint.proofs.never.push_rules.Goals as goal

pub loop-rule-preserved : goal.loop-rule-preserved
loop-rule-preserved c =
    flat_more (rule_never c.args.last c.args.part) c.args.rules.now c.loop-rule.rule-index c.rule-item.result c.args.places.now.items c.loop-rule.places.items c.push_rule.new.places.items c.loop-rule-test.true c.rule-item.is c.loop-rule.invariant
    c.in_ok-push_rule.ensures.pushed

pub returns : goal.returns
returns c = record {
  pushed = c.loop-rule.invariant ∙ ap (λ xs. c.args.places.now.items ++ flat_map (rule_never c.args.last c.args.part) xs) (take_all c.loop-rule.rule-index c.args.rules.now (omega (arith, c.loop-rule-test.false)));
}
