use Rattle.std.proofs.Common.{◌≡◌, ◌++◌, take}
use Rattle.unroll.specs.Cycle.{part_rules}
use Rattle.unroll.specs.Step.Kept.{kept_rules}
use Rattle.unroll.proofs.rules.keep_parts.Given as goal

abbrev pub invariant-loop-part : goal.invariant-loop-part
invariant-loop-part l = l.rules.items ≡ l.initial.rules.items ++ kept_rules l.design.cycles (part_rules 0 (take l.part l.design.sheets))
