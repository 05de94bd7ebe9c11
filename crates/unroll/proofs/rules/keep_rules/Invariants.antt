use Rattle.std.proofs.Common.{◌≡◌, ◌++◌, map, take}
use Rattle.unroll.specs.Cycle.{rule_behind}
use Rattle.unroll.specs.Step.Kept.{kept_rules}
use Rattle.unroll.proofs.rules.keep_rules.Given as goal

abbrev pub invariant-loop-rule : goal.invariant-loop-rule
invariant-loop-rule l = l.rules.items ≡ l.initial.rules.items ++ kept_rules l.cycles (map (rule_behind l.first) (take l.rule-index l.more))
