-- What holds in each cycle of each run of at least some cycles.
use Rattle.std.specs.Prelude.{◌≡◌, ◌<◌, ◌≤◌, ◌+◌, ◌≤ℤ◌, ℕ, ℤ, List}
use Rattle.itv_base.specs.declared.names.EventId.{EventId}
use Rattle.itv_base.specs.declared.names.Side.{Side}
use Rattle.itv_base.specs.declared.names.Side.TheVariants.{Lower, Upper}
use Rattle.event_graph.specs.Bounds.{IsGreatest, IsLeast}
use Rattle.event_graph.specs.Network.{Net}
use Rattle.event_graph.specs.Satisfying.{Satisfies}
use Rattle.event_graph.specs.Times.{separation}
use Rattle.sheet.specs.declared.row.SheetRow.{SheetRow}
use Rattle.compose.specs.Design.{DesignView, IsDesign}
use Rattle.compose.specs.Numbers.{mark_count}
use Rattle.unroll.specs.Step.Between.{IsRowBetween}
use Rattle.longer_runs.specs.Periods.{IsPeriod}
use Rattle.longer_runs.specs.PeriodLaws.{IsRowInStep, separation_in}
use Rattle.longer_runs.specs.WindowLaws.{HoldsFrom}
use Rattle.longer_runs.specs.Windows.{from_in, net_over, to_in}

-- a separation is not past a number on a side
abbrev pub IsNotPast : Side → ℤ → ℤ → Type 0
IsNotPast Upper value apart = apart ≤ℤ value
IsNotPast Lower value apart = value ≤ℤ apart

-- the greatest or the least separation of a pair
abbrev pub IsExtreme : Side → Net → EventId → EventId → ℤ → Type 0
IsExtreme Upper net from to value = IsGreatest net from to value
IsExtreme Lower net from to value = IsLeast net from to value

-- the to-event of a row is in this cycle of a run, from a first cycle on, and its from-event is in some cycle
pub record IsSeen (row : SheetRow) (start cycles cycle : ℕ) : Type 0 where
  pub from : start ≤ cycle
  pub back : row.shift ≤ cycle
  pub less : cycle < cycles

-- The greatest or the least separation of a row over all runs of at least so many cycles, from a first cycle on: no run has one past it, and the run of so many
-- cycles has it in some cycle.
pub record IsExtremeOverRuns (side : Side) (d : DesignView) (row : SheetRow) (start cycles : ℕ) (value : ℤ) : Type 0 where
  pub kept : (more : ℕ) → HoldsFrom (IsNotPast side value) d row start (cycles + more)
  pub cycle : ℕ
  pub seen : IsSeen row start cycles cycle
  pub times : List ℤ
  pub satisfied : Satisfies times (net_over cycles d)
  pub attained : separation times (from_in (mark_count d.sheets) cycle row) (to_in (mark_count d.sheets) cycle row) ≡ value

-- the number is the greatest or the least separation in each of these cycles
abbrev pub IsAlwaysExtreme : Side → DesignView → SheetRow → ℕ → ℕ → ℤ → Type 0
IsAlwaysExtreme side d row start cycles value =
    (more cycle : ℕ) → IsSeen row start (cycles + more) cycle → IsExtreme side (net_over (cycles + more) d) (from_in (mark_count d.sheets) cycle row) (to_in (mark_count d.sheets) cycle row) value

-- ---- laws

-- if a number is the greatest or the least separation of a row over the cycles, from one on, of the run of so many cycles, it is so over all longer runs
abbrev pub ExtremeStays : Type 0
ExtremeStays = (side : Side) (d : DesignView) (row : SheetRow) (start cycles cycle : ℕ) (value : ℤ) → IsDesign d → IsRowBetween (mark_count d.sheets) row → IsSeen row start cycles cycle
    → IsExtreme side (net_over cycles d) (from_in (mark_count d.sheets) cycle row) (to_in (mark_count d.sheets) cycle row) value
    → HoldsFrom (IsNotPast side value) d row start cycles → IsExtremeOverRuns side d row start cycles value

-- if steady times attain it too, it is the greatest or the least separation in each cycle
abbrev pub SteadyIsAlways : Type 0
SteadyIsAlways = (side : Side) (d : DesignView) (row : SheetRow) (start cycles : ℕ) (value : ℤ) (each times : List ℤ) → IsDesign d → IsRowBetween (mark_count d.sheets) row
    → IsExtremeOverRuns side d row start cycles value → IsPeriod each times d → IsRowInStep each row → separation_in each times row ≡ value
    → IsAlwaysExtreme side d row start cycles value
