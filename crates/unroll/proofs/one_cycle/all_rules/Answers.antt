use Rattle.std.proofs.Common.{◌≡◌, List, All, ◌∙◌, subst, sym}
use Rattle.sheet.specs.Rule.{RuleView}
use Rattle.compose.specs.Numbers.{mark_count}
use Rattle.unroll.specs.Cycle.{rules_of}
use Rattle.unroll.specs.Step.Between.{IsRuleBetween}
use Rattle.unroll.specs.Step.Kept.{kept_rules}
use Rattle.unroll.proofs.BetweenLists.{all_rules_between}
use Rattle.unroll.proofs.WholeCycle.{all_rules_kept}
use Rattle.unroll.proofs.one_cycle.all_rules.Goals as goal

pub returns-clause-rules : goal.returns-clause-rules
returns-clause-rules c =
    let d = c.args.design.now in
    let kept : c.in_ok-rules.rules.items ≡ kept_rules d.cycles (rules_of d) = rw c.in_ok-numbered.ensures at c.in_ok-rules.ensures in
    kept ∙ all_rules_kept d d.cycles c.cycles-cycles.ensures.design c.requires.cycles

pub returns-clause-between : goal.returns-clause-between
returns-clause-between c =
    let d = c.args.design.now in
    let kept : c.in_ok-rules.rules.items ≡ kept_rules d.cycles (rules_of d) = rw c.in_ok-numbered.ensures at c.in_ok-rules.ensures in
    subst (λ (rules : List RuleView). All (IsRuleBetween (mark_count d.sheets)) rules) (sym (kept ∙ all_rules_kept d d.cycles c.cycles-cycles.ensures.design c.requires.cycles))
    (all_rules_between d c.cycles-cycles.ensures.design)
