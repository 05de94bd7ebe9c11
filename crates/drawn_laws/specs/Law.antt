-- What holds of every design that is read, and of every network that it draws.
use Rattle.std.specs.Prelude.{◌≡◌, ◌<◌, ℕ, List, length, All, Ok, slice_index_or}
use Rattle.itv_base.specs.Outside.{ShelfState}
use Rattle.compose.specs.Compose.{composed_on}
use Rattle.compose.specs.Design.{DesignView, IsDesign}
use Rattle.design_plan.specs.Plan.{PlanView, sheets_on}
use Rattle.drawn_networks.specs.Drawn.{Drawn, nameless}
use Rattle.drawn_networks.specs.declared.row.Row.{Row}
use Rattle.slack_report.specs.Entry.{IsKind, IsName}
use Rattle.design_reading.specs.FileReading.{RunsTo, ready}
use Rattle.design_reading.specs.Design.{design_at, plan_at}

-- if reading a design gives a drawn network, each of its names is a part's name, a mark and a cycle within the limit
abbrev pub DrawnNamesHaveForm : Type 0
DrawnNamesHaveForm = (shelf : ShelfState) (name : List ℕ) (drawn : Drawn) → RunsTo shelf (design_at name) (ready drawn) → All IsName drawn.names

-- no two of the names are the same
abbrev pub DrawnNamesDiffer : Type 0
DrawnNamesDiffer = (shelf : ShelfState) (name : List ℕ) (drawn : Drawn) → RunsTo shelf (design_at name) (ready drawn)
    → (i j : ℕ) → i < j → j < length drawn.names → slice_index_or drawn.names i nameless ≡ slice_index_or drawn.names j nameless → ⊥

-- the ends of each requirement are a range
abbrev pub DrawnRangesHaveForm : Type 0
DrawnRangesHaveForm =
    (shelf : ShelfState) (name : List ℕ) (drawn : Drawn) → RunsTo shelf (design_at name) (ready drawn) → All (λ (row : Row). IsKind row.kind) drawn.rows

-- what is composed from the plan that the files of a design give is a design
abbrev pub ReadIsDesign : Type 0
ReadIsDesign = (shelf : ShelfState) (name : List ℕ) (plan : PlanView) (d : DesignView) → RunsTo shelf (plan_at name) (ready plan)
    → composed_on plan.netlist (sheets_on plan.sheets plan.netlist.parts) ≡ Ok d → IsDesign d
