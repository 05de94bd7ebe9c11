use Rattle.std.proofs.Common.{◌≡◌, ◌++◌, take}
use Rattle.std.specs.List.{flat_map}
use Rattle.lint.specs.Leads.{rule_leads}
use Rattle.lint.proofs.leads.push_rules.Given as goal

abbrev pub invariant-loop-rule : goal.invariant-loop-rule
invariant-loop-rule l = l.leads.items ≡ l.initial.leads.items ++ flat_map (rule_leads l.design.sheets l.home) (take l.rule-index l.rules)
