-- What a design draws.
use Rattle.std.specs.Prelude.{ℕ, ◌*◌, List, [], ◌∷◌, ◌++◌, map}
use Rattle.itv_base.specs.Names.{Name}
use Rattle.drawn_networks.specs.Drawn.{Drawn}
use Rattle.sheet.specs.SheetContents.{SheetView}
use Rattle.compose.specs.Design.{DesignView}
use Rattle.compose.specs.Numbers.{mark_count}
use Rattle.unroll.specs.Cycle.{rows_of, rules_of}
use Rattle.unroll.specs.Cycles.{constraints_of, in_cycles, origins_of, rows_in}

-- the names of the events in a cycle, for parts with these names and these sheets
abbrev pub names_in : List (List ℕ) → List SheetView → ℕ → List Name
names_in [] sheets cycle = []
names_in (part ∷ parts) [] cycle = []
names_in (part ∷ parts) (sheet ∷ sheets) cycle = map (λ mark. record { part = part; mark = mark.name; cycle = cycle }) sheet.marks ++ names_in parts sheets cycle

-- what a design draws, cycle by cycle
abbrev pub drawn_of : DesignView → Drawn
drawn_of d = record {
  net = record { events = d.cycles * mark_count d.sheets; constraints = constraints_of (mark_count d.sheets) (rules_of d) d.cycles };
  origins = origins_of (rules_of d) d.cycles;
  names = in_cycles (names_in d.parts d.sheets) d.cycles;
  rows = rows_in (mark_count d.sheets) (rows_of d) d.cycles;
}
