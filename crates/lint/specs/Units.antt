-- Ends of ranges that are tiny compared with most ends of the design, as in another unit than picoseconds. Parts, edges and nets are numbered from 0.
use Rattle.std.specs.Prelude.{ℤ, ℕ, ◌*◌, ◌==◌, nat_lt, Bool, if◌then◌else◌, List, [], ◌∷◌, ◌++◌, length, Option, Some, None, count_by, unsigned_abs}
use Rattle.std.specs.List.{flat_map, list_any}
use Rattle.itv_base.specs.Range.{Ends}
use Rattle.itv_base.specs.declared.row_kind.RowKind.{RowKind}
use Rattle.itv_base.specs.declared.row_kind.RowKind.TheVariants.{Ask, Req}
use Rattle.netlist.specs.NetlistContents.{PinNetView}
use Rattle.origin.specs.Order.{is_lane}
use Rattle.sheet.specs.declared.row.SheetRow.{SheetRow}
use Rattle.sheet.specs.declared.rule.RuleCause.{RuleCause}
use Rattle.sheet.specs.SheetContents.{SheetView}
use Rattle.sheet.specs.Rule.{RuleView}
use Rattle.compose.specs.Design.{DesignView}
use Rattle.design_plan.specs.Plan.{PlanView}
use Rattle.lint.specs.declared.ranged.Ranged.{Ranged}
use Rattle.lint.specs.declared.warning.Warning.{Warning}
use Rattle.lint.specs.Kinds.{tiny_net_at, tiny_at}
use Rattle.lint.specs.Lists.{each_from, netlist_part, spot, warned}

-- ---- the ranges of a design, each with the warning that it may give

abbrev pub ranged_by : Warning → Ends → List Ranged
ranged_by warning range = record { warning = warning; range = range } ∷ []

-- the order of a lane has no range that was written
abbrev pub source_ranged : ℕ → RuleCause → List Ranged
source_ranged part source = if is_lane source.origin then [] else ranged_by (tiny_at (spot part source.origin)) source.range

abbrev pub rule_ranged : ℕ → RuleView → List Ranged
rule_ranged part rule = flat_map (source_ranged part) rule.causes

abbrev pub kind_ranged : Warning → RowKind → List Ranged
kind_ranged warning Ask = []
kind_ranged warning (Req range) = ranged_by warning range

abbrev pub row_ranged : ℕ → SheetRow → List Ranged
row_ranged part row = kind_ranged (tiny_at (spot part row.origin)) row.kind

abbrev pub rules_ranged : ℕ → List RuleView → List Ranged
rules_ranged part rules = flat_map (rule_ranged part) rules

abbrev pub rows_ranged : ℕ → List SheetRow → List Ranged
rows_ranged part rows = flat_map (row_ranged part) rows

abbrev pub sheet_ranged : ℕ → SheetView → List Ranged
sheet_ranged part sheet = rules_ranged part sheet.rules ++ rows_ranged part sheet.rows

-- a net has one delay, however many pins it has
abbrev pub net_ranged : ℕ → PinNetView → List Ranged
net_ranged n net = ranged_by (tiny_net_at n) net.delay

-- the ranges of the sheets, then of the nets, then of the wires; within each the ranges of rules, and then of requirements
abbrev pub ranges_of : PlanView → DesignView → List Ranged
ranges_of plan d = each_from sheet_ranged 0 d.sheets ++ (each_from net_ranged 0 plan.netlist.nets ++ (rules_ranged netlist_part d.rules ++ rows_ranged netlist_part d.rows))

-- ---- their ends

-- the absolute value of an end that is a number other than 0
abbrev pub end_sizes : Option ℤ → List ℕ
end_sizes None = []
end_sizes (Some value) = if unsigned_abs value == 0 then [] else unsigned_abs value ∷ []

abbrev pub sizes_of : Ranged → List ℕ
sizes_of ranged = end_sizes ranged.range.low ++ end_sizes ranged.range.high

-- more than half of these sizes are more than 200 times this size: so it is below one 200th of their median
abbrev pub is_tiny : List ℕ → ℕ → Bool
is_tiny sizes size = nat_lt (length sizes) (2 * count_by (nat_lt (200 * size)) sizes)

abbrev pub ranged_unit : List ℕ → Ranged → List Warning
ranged_unit sizes ranged = warned (list_any (is_tiny sizes) (sizes_of ranged)) ranged.warning

abbrev pub units_among : List Ranged → List Warning
units_among ranges = flat_map (ranged_unit (flat_map sizes_of ranges)) ranges

abbrev pub unit_warnings : PlanView → DesignView → List Warning
unit_warnings plan d = units_among (ranges_of plan d)
