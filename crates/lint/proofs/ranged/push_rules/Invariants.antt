use Rattle.std.proofs.Common.{◌≡◌, ◌++◌, take}
use Rattle.std.specs.List.{flat_map}
use Rattle.lint.specs.Units.{rule_ranged}
use Rattle.lint.proofs.ranged.push_rules.Given as goal

abbrev pub invariant-loop-rule : goal.invariant-loop-rule
invariant-loop-rule l = l.ranges.items ≡ l.initial.ranges.items ++ flat_map (rule_ranged l.part) (take l.rule-index l.rules)
