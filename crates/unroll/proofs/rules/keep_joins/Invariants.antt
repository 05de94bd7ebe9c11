use Rattle.std.proofs.Common.{◌≡◌, ◌++◌, map, take}
use Rattle.compose.specs.Joins.{joins_of_pins}
use Rattle.compose.specs.Numbers.{join_rule}
use Rattle.unroll.specs.Step.Kept.{kept_rules}
use Rattle.unroll.proofs.rules.keep_joins.Given as goal

abbrev pub invariant-loop-pin : goal.invariant-loop-pin
invariant-loop-pin l = l.rules.items ≡ l.initial.rules.items ++ kept_rules l.design.cycles (map (join_rule l.design.sheets) (joins_of_pins (take l.pin-index l.pins)))
