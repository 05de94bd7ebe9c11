use Rattle.std.proofs.Common.{◌*◌, ◌^◌, take}
use Rattle.compose.specs.Numbers.{mark_count}
use Rattle.unroll.specs.Cycle.{part_rows, part_rules}
use Rattle.unroll.specs.Step.Counting.{AreCounts, AreWithin}
use Rattle.unroll.proofs.counts.count_parts.Given as goal

abbrev pub invariant-loop-part : goal.invariant-loop-part
invariant-loop-part l = record {
  counts : AreCounts (mark_count (take l.part l.design.sheets)) l.design.cycles (part_rules 0 (take l.part l.design.sheets)) (part_rows 0 (take l.part l.design.sheets)) l.counts;
  within : AreWithin (l.part * 2 ^ 72) (l.part * 2 ^ 72) l.counts;
}
