-- One cycle of a design: the rules and rows between its numbered marks.
use Rattle.std.specs.Prelude.{ℕ, ◌+◌, List, [], ◌∷◌, ◌++◌, length, map}
use Rattle.sheet.specs.declared.row.SheetRow.{SheetRow}
use Rattle.sheet.specs.declared.rule.RuleCause.{RuleCause}
use Rattle.sheet.specs.Rule.{RuleView}
use Rattle.sheet.specs.SheetContents.{SheetView}
use Rattle.compose.specs.Design.{DesignView}
use Rattle.compose.specs.Numbers.{join_rule}

-- ---- rules

abbrev pub source_behind : ℕ → RuleCause → RuleCause
source_behind first source = record { mark = first + source.mark; shift = source.shift; range = source.range; origin = source.origin }

-- a rule of a sheet whose first mark has this number
abbrev pub rule_behind : ℕ → RuleView → RuleView
rule_behind first rule = record { kind = rule.kind; target = first + rule.target; causes = map (source_behind first) rule.causes }

-- the rules of the sheets of parts; the first mark of the first part has this number
abbrev pub part_rules : ℕ → List SheetView → List RuleView
part_rules first [] = []
part_rules first (sheet ∷ sheets) = map (rule_behind first) sheet.rules ++ part_rules (first + length sheet.marks) sheets

-- the rules of the parts, then of the nets, then of the wires
abbrev pub rules_of : DesignView → List RuleView
rules_of d = part_rules 0 d.sheets ++ (map (join_rule d.sheets) d.joins ++ d.rules)

-- ---- rows

abbrev pub row_behind : ℕ → SheetRow → SheetRow
row_behind first row = record { kind = row.kind; from = first + row.from; to = first + row.to; shift = row.shift; origin = row.origin }

abbrev pub part_rows : ℕ → List SheetView → List SheetRow
part_rows first [] = []
part_rows first (sheet ∷ sheets) = map (row_behind first) sheet.rows ++ part_rows (first + length sheet.marks) sheets

-- the rows of the parts, and then of the wires
abbrev pub rows_of : DesignView → List SheetRow
rows_of d = part_rows 0 d.sheets ++ d.rows
