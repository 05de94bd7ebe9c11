use Rattle.std.proofs.Common.{◌≡◌, ◌++◌, take}
use Rattle.std.specs.List.{flat_map}
use Rattle.lint.specs.Step.{rule_caps}
use Rattle.lint.proofs.caps.push_rules.Given as goal

abbrev pub invariant-loop-rule : goal.invariant-loop-rule
invariant-loop-rule l = l.caps.items ≡ l.initial.caps.items ++ flat_map (rule_caps l.part l.texts) (take l.rule-index l.rules)
