-- What follows from what is found of a run.
use Rattle.std.specs.Prelude.{◌+◌, ℕ, ℤ, List, Some}
use Rattle.itv_base.specs.Range.{Ends}
use Rattle.itv_base.specs.declared.names.Side.{Side}
use Rattle.event_graph.specs.Satisfying.{Satisfies}
use Rattle.sheet.specs.declared.row.SheetRow.{SheetRow}
use Rattle.compose.specs.Design.{DesignView, IsDesign}
use Rattle.compose.specs.Numbers.{mark_count}
use Rattle.unroll.specs.Step.Between.{IsRowBetween}
use Rattle.longer_runs.specs.Always.{IsAlwaysExtreme}
use Rattle.longer_runs.specs.Windows.{net_over}
use Rattle.steady.specs.Found.{IsRowFound, IsRunBound, IsSteadyFound}
use Rattle.steady.specs.Verdicts.{IsRunVerdict, verdict_of}
use Rattle.steady.specs.declared.found.RunBound.TheVariants.{Closed}
use Rattle.steady.specs.declared.found.RowFound.{RowFound}
use Rattle.steady.specs.declared.period.Period.{Period}

-- if steady times have the greatest or the least separation of all runs, it is so in each cycle of each run
abbrev pub SteadyBoundIsAlways : Type 0
SteadyBoundIsAlways = (side : Side) (d : DesignView) (row : SheetRow) (start cycles : ℕ) (value : ℤ) → IsDesign d → IsRowBetween (mark_count d.sheets) row
    → IsRunBound side d row start cycles (Closed value (Some value)) → IsAlwaysExtreme side d row start cycles value

-- if steady times are found, times satisfy the network of every number of cycles
abbrev pub SteadyRuns : Type 0
SteadyRuns = (d : DesignView) (period : Period) (cycles : ℕ) → IsDesign d → IsSteadyFound d (Some period) → (times : List ℤ) × Satisfies times (net_over cycles d)

-- the verdict of the bounds of a row is right in every cycle of every run
abbrev pub VerdictIsRight : Type 0
VerdictIsRight = (d : DesignView) (from cycles : ℕ) (row : SheetRow) (range : Ends) (found : RowFound) → IsDesign d → IsRowBetween (mark_count d.sheets) row
    → IsRowFound d from cycles row found → IsRunVerdict d row range (from + row.shift) cycles (verdict_of range found)
