use Rattle.std.proofs.Common.{◌≡◌, ◌++◌, take}
use Rattle.std.specs.List.{flat_map}
use Rattle.lint.specs.Never.{rule_never}
use Rattle.lint.proofs.never.push_rules.Given as goal

abbrev pub invariant-loop-rule : goal.invariant-loop-rule
invariant-loop-rule l = l.places.items ≡ l.initial.places.items ++ flat_map (rule_never l.last l.part) (take l.rule-index l.rules)
