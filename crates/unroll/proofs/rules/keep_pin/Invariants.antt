use Rattle.std.proofs.Common.{◌≡◌, ◌++◌, map}
use Rattle.compose.specs.Joins.{first_joins}
use Rattle.compose.specs.Numbers.{join_rule}
use Rattle.unroll.specs.Step.Kept.{kept_rules}
use Rattle.unroll.proofs.rules.keep_pin.Given as goal

abbrev pub invariant-loop-k : goal.invariant-loop-k
invariant-loop-k l = l.rules.items ≡ l.initial.rules.items ++ kept_rules l.design.cycles (map (join_rule l.design.sheets) (first_joins l.pin l.k))
