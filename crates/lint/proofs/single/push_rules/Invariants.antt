use Rattle.std.proofs.Common.{◌≡◌, ◌++◌, take}
use Rattle.std.specs.List.{flat_map}
use Rattle.lint.specs.Rules.{rule_single}
use Rattle.lint.proofs.single.push_rules.Given as goal

abbrev pub invariant-loop-rule : goal.invariant-loop-rule
invariant-loop-rule l = l.warnings.items ≡ l.initial.warnings.items ++ flat_map (rule_single l.part) (take l.rule-index l.rules)
