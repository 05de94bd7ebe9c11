-- What the times of one period say of every number of cycles.
use Rattle.std.specs.Prelude.{◌≡◌, ◌<◌, ◌≤◌, ℕ, ℤ, ◌+ℤ◌, List}
use Rattle.itv_base.specs.Range.{Allows, Ends}
use Rattle.event_graph.specs.Bounds.{IsUnbounded}
use Rattle.event_graph.specs.Satisfying.{Satisfies}
use Rattle.event_graph.specs.Times.{separation}
use Rattle.sheet.specs.declared.row.SheetRow.{SheetRow}
use Rattle.compose.specs.Design.{DesignView, IsDesign}
use Rattle.compose.specs.Numbers.{mark_count}
use Rattle.unroll.specs.Step.Between.{IsRowBetween}
use Rattle.longer_runs.specs.Periods.{IsPeriod, folded_net, mark_event, period_at, periods, steady}
use Rattle.longer_runs.specs.Windows.{EveryInCycle, from_in, net_over, to_in}

-- the separation of a row in steady times, whatever the cycle: its from-event comes so many of its periods before the time of its mark
abbrev pub separation_in : List ℤ → List ℤ → SheetRow → ℤ
separation_in each times row = separation times (mark_event row.from) (mark_event row.to) +ℤ periods (period_at each row.from) row.shift

-- the two marks of a row have one period
abbrev pub IsRowInStep : List ℤ → SheetRow → Type 0
IsRowInStep each row = period_at each row.from ≡ period_at each row.to

-- steady times satisfy the network of every number of cycles
abbrev pub SteadySatisfies : Type 0
SteadySatisfies = (d : DesignView) (each times : List ℤ) (cycles : ℕ) → IsDesign d → IsPeriod each times d → Satisfies (steady each times cycles) (net_over cycles d)

-- in steady times a row has one separation in each cycle of each run
abbrev pub SteadySeparates : Type 0
SteadySeparates = (d : DesignView) (each times : List ℤ) (row : SheetRow) (cycles cycle : ℕ) → IsDesign d → IsRowBetween (mark_count d.sheets) row → IsPeriod each times d
    → IsRowInStep each row → row.shift ≤ cycle → cycle < cycles
    → separation (steady each times cycles) (from_in (mark_count d.sheets) cycle row) (to_in (mark_count d.sheets) cycle row) ≡ separation_in each times row

-- if the separation of a row in steady times is outside a range, the range is broken in every cycle of every run
abbrev pub SteadyBreaks : Type 0
SteadyBreaks = (range : Ends) (d : DesignView) (each times : List ℤ) (row : SheetRow) (cycles cycle : ℕ) → IsDesign d → IsRowBetween (mark_count d.sheets) row → IsPeriod each times d
    → IsRowInStep each row → (Allows range (separation_in each times row) → ⊥) → row.shift ≤ cycle → cycle < cycles
    → EveryInCycle (Allows range) d row cycles cycle → ⊥

-- if a pair is unbounded in the one cycle, it is unbounded in each cycle of each run
abbrev pub SteadyIsUnbounded : Type 0
SteadyIsUnbounded = (d : DesignView) (each times : List ℤ) (row : SheetRow) (cycles cycle : ℕ) → IsDesign d → IsRowBetween (mark_count d.sheets) row → IsPeriod each times d
    → IsUnbounded (folded_net each d) (mark_event row.from) (mark_event row.to) → row.shift ≤ cycle → cycle < cycles
    → IsUnbounded (net_over cycles d) (from_in (mark_count d.sheets) cycle row) (to_in (mark_count d.sheets) cycle row)
