-- What leads from mark to mark in a design: each cause of a rule, and each join of a net. The order of a lane leads nowhere. Parts and marks are numbered
-- from 0.
use Rattle.std.specs.Prelude.{ℕ, ◌+◌, ◌-◌, ◌==◌, ◌&&◌, nat_le, nat_lt, Bool, true, false, if◌then◌else◌, List, [], ◌∷◌, ◌++◌, length, option_map, unwrap_or, slice_get}
use Rattle.std.specs.List.{flat_map}
use Rattle.itv_base.specs.declared.names.RuleKind.{RuleKind}
use Rattle.itv_base.specs.declared.names.RuleKind.TheVariants.{Lin}
use Rattle.origin.specs.Order.{is_lane}
use Rattle.origin.specs.declared.origin.Origin.{Origin}
use Rattle.origin.specs.declared.origin.Origin.TheVariants as drawn
use Rattle.sheet.specs.declared.row.SheetRow.{SheetRow}
use Rattle.sheet.specs.declared.rule.RuleCause.{RuleCause}
use Rattle.sheet.specs.SheetContents.{SheetView}
use Rattle.sheet.specs.Rule.{RuleView}
use Rattle.compose.specs.declared.joins.Join.{Join}
use Rattle.compose.specs.declared.mark.DesignMark.{DesignMark}
use Rattle.compose.specs.Design.{DesignView}
use Rattle.lint.specs.declared.crossings.Crossing.{Crossing}
use Rattle.lint.specs.declared.home.Home.{Home}
use Rattle.lint.specs.declared.home.Home.TheVariants.{Sheet, Netlist}
use Rattle.lint.specs.declared.lead.Lead.{Lead}
use Rattle.lint.specs.Lists.{each_from}

-- ---- marks

abbrev pub is_at : DesignMark → DesignMark → Bool
is_at a b = a.part == b.part && a.mark == b.mark

abbrev pub mark_on : ℕ → ℕ → DesignMark
mark_on part mark = record { part = part; mark = mark }

-- the mark with a number, where the first mark of the first sheet has the number 0; the first sheet is the sheet of this part
abbrev pub mark_from : ℕ → List SheetView → ℕ → DesignMark
mark_from part [] number = mark_on part number
mark_from part (sheet ∷ sheets) number = if nat_lt number (length sheet.marks) then mark_on part number else mark_from (part + 1) sheets (number - length sheet.marks)

-- the mark of a design with a number
abbrev pub mark_of : List SheetView → ℕ → DesignMark
mark_of sheets number = mark_from 0 sheets number

-- the mark that a number stands for: on the sheet of a part marks are numbered alone, and in the netlist part by part
abbrev pub mark_at : List SheetView → Home → ℕ → DesignMark
mark_at sheets (Sheet part) number = mark_on part number
mark_at sheets Netlist number = mark_of sheets number

-- the rules on the sheet of a part
abbrev pub rules_at : List SheetView → ℕ → List RuleView
rules_at sheets part = unwrap_or (option_map (λ (sheet : SheetView). sheet.rules) (slice_get sheets part)) []

-- ---- leads

-- a cause of a rule of a kind into a mark leads from another mark
abbrev pub cause_leads : List SheetView → Home → RuleKind → DesignMark → RuleCause → List Lead
cause_leads sheets home kind to source =
    if is_lane source.origin then []
    else record { from = mark_at sheets home source.mark; to = to; kind = kind; shift = source.shift; range = source.range; origin = source.origin } ∷ []

abbrev pub rule_leads : List SheetView → Home → RuleView → List Lead
rule_leads sheets home rule = flat_map (cause_leads sheets home rule.kind (mark_at sheets home rule.target)) rule.causes

abbrev pub sheet_leads : List SheetView → ℕ → SheetView → List Lead
sheet_leads sheets part sheet = flat_map (rule_leads sheets (Sheet part)) sheet.rules

-- a join leads as a linear rule within one cycle does
abbrev pub join_leads : Join → List Lead
join_leads join = record { from = join.from; to = join.to; kind = Lin; shift = 0; range = join.delay; origin = join.origin } ∷ []

-- the leads of the sheets, then of the nets, then of the wires
abbrev pub leads_of : DesignView → List Lead
leads_of d = each_from (sheet_leads d.sheets) 0 d.sheets ++ (flat_map join_leads d.joins ++ flat_map (rule_leads d.sheets Netlist) d.rules)

abbrev pub is_edge : Origin → Bool
is_edge (drawn.Lane n) = false
is_edge (drawn.Edge n) = true
is_edge (drawn.Pin net pin) = false
is_edge (drawn.Wire n) = false

abbrev pub is_pin : Origin → Bool
is_pin (drawn.Lane n) = false
is_pin (drawn.Edge n) = false
is_pin (drawn.Pin net pin) = true
is_pin (drawn.Wire n) = false

abbrev pub is_wire : Origin → Bool
is_wire (drawn.Lane n) = false
is_wire (drawn.Edge n) = false
is_wire (drawn.Pin net pin) = false
is_wire (drawn.Wire n) = true

-- a lead goes into a mark
abbrev pub leads_into : DesignMark → Lead → Bool
leads_into mark lead = is_at lead.to mark

-- ---- rows between cycles

-- a row with a shift crosses from a cycle into a later one
abbrev pub row_crossings : List SheetView → Home → SheetRow → List Crossing
row_crossings sheets home row = if nat_le 1 row.shift then record { from = mark_at sheets home row.from; to = mark_at sheets home row.to } ∷ [] else []

abbrev pub sheet_crossings : List SheetView → ℕ → SheetView → List Crossing
sheet_crossings sheets part sheet = flat_map (row_crossings sheets (Sheet part)) sheet.rows

-- the crossings of the sheets, and then of the wires
abbrev pub crossings_of : DesignView → List Crossing
crossings_of d = each_from (sheet_crossings d.sheets) 0 d.sheets ++ flat_map (row_crossings d.sheets Netlist) d.rows
