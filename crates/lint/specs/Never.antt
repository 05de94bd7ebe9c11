-- Rules and rows that are in no cycle: their shifts reach before the first cycle even from the last cycle. Parts and edges are numbered from 0.
use Rattle.std.specs.Prelude.{ℕ, ◌-◌, ◌||◌, if◌then◌else◌, List, [], ◌∷◌, ◌++◌, option_map}
use Rattle.std.specs.List.{flat_map}
use Rattle.std.specs.Option.{option_to_list}
use Rattle.sheet.specs.declared.row.SheetRow.{SheetRow}
use Rattle.sheet.specs.SheetContents.{SheetView}
use Rattle.sheet.specs.Rule.{RuleView}
use Rattle.compose.specs.Design.{DesignView}
use Rattle.unroll.specs.Cycles.{row_exists, rule_exists}
use Rattle.lint.specs.declared.warning.DrawnPlace.{DrawnPlace}
use Rattle.lint.specs.Lists.{each_from, netlist_part, spot}
use Rattle.lint.specs.Rules.{drawn_by, keeps_order}

-- a rule that is in no cycle up to the last one, by its first edge; a lane's order needs no second cycle
abbrev pub rule_never : ℕ → ℕ → RuleView → List DrawnPlace
rule_never last part rule = if rule_exists last rule || keeps_order rule then [] else option_to_list (option_map (spot part) (drawn_by rule))

abbrev pub never_rules : ℕ → ℕ → List RuleView → List DrawnPlace
never_rules last part rules = flat_map (rule_never last part) rules

abbrev pub row_never : ℕ → ℕ → SheetRow → List DrawnPlace
row_never last part row = if row_exists last row then [] else spot part row.origin ∷ []

abbrev pub never_rows : ℕ → ℕ → List SheetRow → List DrawnPlace
never_rows last part rows = flat_map (row_never last part) rows

abbrev pub sheet_never : ℕ → ℕ → SheetView → List DrawnPlace
sheet_never last part sheet = never_rules last part sheet.rules ++ never_rows last part sheet.rows

-- the rules and the rows of each sheet that are in no cycle, and then those of the netlist
abbrev pub never_places : DesignView → List DrawnPlace
never_places d = each_from (sheet_never (d.cycles - 1)) 0 d.sheets ++ (never_rules (d.cycles - 1) netlist_part d.rules ++ never_rows (d.cycles - 1) netlist_part d.rows)
