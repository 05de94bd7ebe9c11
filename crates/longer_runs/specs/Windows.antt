-- Some cycles of a longer run, and what holds of a row in one cycle of a run.
use Rattle.std.specs.Prelude.{◌-◌, ◌*◌, ℕ, ℤ, List, drop, take}
use Rattle.itv_base.specs.declared.names.EventId.{EventId}
use Rattle.event_graph.specs.Network.{Net}
use Rattle.event_graph.specs.Satisfying.{Satisfies}
use Rattle.event_graph.specs.Times.{separation}
use Rattle.sheet.specs.declared.row.SheetRow.{SheetRow}
use Rattle.compose.specs.Design.{DesignView}
use Rattle.compose.specs.Numbers.{mark_count}
use Rattle.unroll.specs.Cycles.{event_in}
use Rattle.unroll.specs.Drawn.{drawn_of}

-- a design over another number of cycles
abbrev pub over : ℕ → DesignView → DesignView
over cycles d = record d { cycles = cycles }

-- the network that a design draws over so many cycles, whatever the limits
abbrev pub net_over : ℕ → DesignView → Net
net_over cycles d = (drawn_of (over cycles d)).net

-- of the times of a longer run, the times of so many cycles from a first one on, if each cycle has this many marks
abbrev pub window : ℕ → ℕ → ℕ → List ℤ → List ℤ
window marks first cycles times = take (cycles * marks) (drop (first * marks) times)

-- the from-event of a row whose to-event is in this cycle
abbrev pub from_in : ℕ → ℕ → SheetRow → EventId
from_in marks cycle row = event_in marks (cycle - row.shift) row.from

-- the to-event of a row in this cycle
abbrev pub to_in : ℕ → ℕ → SheetRow → EventId
to_in marks cycle row = event_in marks cycle row.to

-- each satisfying separation of a pair of events is of a kind
abbrev pub EverySeparation : (ℤ → Type 0) → Net → EventId → EventId → Type 0
EverySeparation Is net from to = (times : List ℤ) → Satisfies times net → Is (separation times from to)

-- each satisfying separation of a row whose to-event is in a cycle is of a kind, if the design runs for so many cycles
abbrev pub EveryInCycle : (ℤ → Type 0) → DesignView → SheetRow → ℕ → ℕ → Type 0
EveryInCycle Is d row cycles cycle = EverySeparation Is (net_over cycles d) (from_in (mark_count d.sheets) cycle row) (to_in (mark_count d.sheets) cycle row)
