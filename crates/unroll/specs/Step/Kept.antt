-- The rules and rows that exist in some cycle.
use Rattle.std.specs.Prelude.{ℕ, ◌-◌, List, filter}
use Rattle.sheet.specs.declared.row.SheetRow.{SheetRow}
use Rattle.sheet.specs.Rule.{RuleView}
use Rattle.unroll.specs.Cycles.{row_exists, rule_exists}

-- the rules that exist in the last cycle; what exists in a cycle exists in every later one
abbrev pub kept_rules : ℕ → List RuleView → List RuleView
kept_rules cycles rules = filter (λ rule. rule_exists (cycles - 1) rule) rules

abbrev pub kept_rows : ℕ → List SheetRow → List SheetRow
kept_rows cycles rows = filter (λ row. row_exists (cycles - 1) row) rows
