use Rattle.std.proofs.Common.{◌≡◌, map, take}
use Rattle.longer_runs.specs.Folding.{rule_folded}
use Rattle.steady.proofs.folding.folded_rules.Given as goal

abbrev pub invariant-loop-rule : goal.invariant-loop-rule
invariant-loop-rule l = l.folded.items ≡ map (rule_folded l.each) (take l.rule-index l.rules)
