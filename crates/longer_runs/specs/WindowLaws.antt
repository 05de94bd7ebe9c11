-- What the network of some cycles says of every longer run.
use Rattle.std.specs.Prelude.{◌<◌, ◌≤◌, ◌+◌, ℕ, ℤ, List}
use Rattle.itv_base.specs.Range.{Allows, Ends}
use Rattle.event_graph.specs.Bounds.{IsInconsistent}
use Rattle.event_graph.specs.Satisfying.{Satisfies}
use Rattle.sheet.specs.declared.row.SheetRow.{SheetRow}
use Rattle.compose.specs.Design.{DesignView, IsDesign}
use Rattle.compose.specs.Numbers.{mark_count}
use Rattle.unroll.specs.Drawn.{drawn_of}
use Rattle.unroll.specs.Reach.{ReachesNoFurther}
use Rattle.unroll.specs.Step.Between.{IsRowBetween}
use Rattle.right_report.specs.Laws.{AllMet}
use Rattle.longer_runs.specs.Windows.{EveryInCycle, net_over, over, window}

-- the times of some cycles of a longer run, from any cycle on, satisfy the network of so many cycles
abbrev pub WindowsSatisfy : Type 0
WindowsSatisfy = (d : DesignView) (cycles first more : ℕ) (times : List ℤ) → IsDesign d
    → Satisfies times (net_over (first + cycles + more) d) → Satisfies (window (mark_count d.sheets) first cycles times) (net_over cycles d)

-- if no times satisfy the network of some cycles, no times satisfy the network of a longer run
abbrev pub InconsistentStays : Type 0
InconsistentStays = (d : DesignView) (cycles more : ℕ) → IsDesign d → IsInconsistent (net_over cycles d) → IsInconsistent (net_over (cycles + more) d)

-- If each satisfying separation of a row in a cycle lies in a range, so does each one in a longer run, in each cycle with at least as many cycles before it
-- and after it.
abbrev pub HoldsInEachWindow : Type 0
HoldsInEachWindow = (range : Ends) (d : DesignView) (row : SheetRow) (cycles first more cycle : ℕ) → IsDesign d → IsRowBetween (mark_count d.sheets) row
    → row.shift ≤ cycle → cycle < cycles → EveryInCycle (Allows range) d row cycles cycle → EveryInCycle (Allows range) d row (first + cycles + more) (first + cycle)

-- in each cycle of a run, from one on, each satisfying separation of a row is of a kind
abbrev pub HoldsFrom : (ℤ → Type 0) → DesignView → SheetRow → ℕ → ℕ → Type 0
HoldsFrom Is d row start cycles = (cycle : ℕ) → start ≤ cycle → row.shift ≤ cycle → cycle < cycles → EveryInCycle Is d row cycles cycle

-- if the separations of a row lie in a range in each of some cycles, from one on, they do so in each cycle, from that one on, of every longer run
abbrev pub HoldsFromStays : Type 0
HoldsFromStays = (range : Ends) (d : DesignView) (row : SheetRow) (start cycles more : ℕ) → IsDesign d → IsRowBetween (mark_count d.sheets) row
    → row.shift < cycles → start < cycles → HoldsFrom (Allows range) d row start cycles → HoldsFrom (Allows range) d row start (cycles + more)

-- If each row exists in one of some cycles, and each requirement is met over these cycles, each requirement is met over every greater number of cycles. A longer
-- run may have no satisfying times. Then it meets each requirement too.
abbrev pub PassesStay : Type 0
PassesStay = (d : DesignView) (cycles more : ℕ) → IsDesign d → ReachesNoFurther cycles d
    → AllMet (drawn_of (over cycles d)) → AllMet (drawn_of (over (cycles + more) d))
