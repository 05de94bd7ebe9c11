use Rattle.std.proofs.Common.{◌≡◌, ◌++◌, take}
use Rattle.unroll.specs.Cycle.{part_rows}
use Rattle.unroll.specs.Step.Kept.{kept_rows}
use Rattle.unroll.proofs.asked.keep_parts.Given as goal

abbrev pub invariant-loop-part : goal.invariant-loop-part
invariant-loop-part l = l.rows.items ≡ l.initial.rows.items ++ kept_rows l.design.cycles (part_rows 0 (take l.part l.design.sheets))
