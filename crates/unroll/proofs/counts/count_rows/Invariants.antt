use Rattle.std.proofs.Common.{◌≡◌, ◌*◌, ◌≤◌, take}
use Rattle.itv_base.specs.declared.limits.TheConstants.{MAX_CYCLES}
use Rattle.std.specs.Prelude.{sum_by}
use Rattle.unroll.specs.Step.Counting.{row_cycles}
use Rattle.unroll.proofs.counts.count_rows.Given as goal

abbrev pub invariant-loop-row : goal.invariant-loop-row
invariant-loop-row l = record {
  count : l.count ≡ sum_by (row_cycles l.cycles) (take l.row-index l.rows);
  within : l.count ≤ l.row-index * MAX_CYCLES;
}
