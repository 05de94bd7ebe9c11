-- Rules and rows that may say something else than was meant. A warning names a rule by what draws its first cause. Parts and edges are numbered from 0.
use Rattle.std.specs.Prelude.{ℕ, ◌-◌, ◌==◌, ◌&&◌, ◌||◌, Bool, true, false, not, if◌then◌else◌, List, [], ◌++◌, length, find, Option, Some, None, is_some, option_map, unwrap_or, slice_get}
use Rattle.std.specs.List.{before_first, flat_map, list_any}
use Rattle.std.specs.Option.{option_map_or, option_to_list}
use Rattle.itv_base.specs.Cuts.{is_space}
use Rattle.itv_base.specs.declared.names.RuleKind.{RuleKind}
use Rattle.itv_base.specs.declared.names.RuleKind.TheVariants.{Lin, Late, Early}
use Rattle.origin.specs.declared.origin.Origin.{Origin}
use Rattle.origin.specs.declared.origin.Origin.TheVariants as drawn
use Rattle.origin.specs.Order.{is_lane}
use Rattle.sheet.specs.declared.rule.RuleCause.{RuleCause}
use Rattle.sheet.specs.SheetContents.{SheetView}
use Rattle.sheet.specs.Rule.{RuleView}
use Rattle.compose.specs.Design.{DesignView}
use Rattle.unroll.specs.Cycle.{rows_of}
use Rattle.design_plan.specs.Plan.{PlanView}
use Rattle.lint.specs.declared.lead.Lead.{Lead}
use Rattle.lint.specs.declared.warning.DrawnPlace.{DrawnPlace}
use Rattle.lint.specs.declared.warning.Warning.{Warning}
use Rattle.lint.specs.Kinds.{nothing_asked, both_of, single_at}
use Rattle.lint.specs.Leads.{is_at, is_wire, leads_of}
use Rattle.lint.specs.Lists.{each_behind, each_from, netlist_part, spot, warned}

-- ---- rows

abbrev pub row_warnings : DesignView → List Warning
row_warnings d = warned (length (rows_of d) == 0) nothing_asked

-- ---- rules

-- what draws the first cause of a rule
abbrev pub drawn_by : RuleView → Option Origin
drawn_by rule = option_map (λ (source : RuleCause). source.origin) (slice_get rule.causes 0)

abbrev pub from_mark : RuleView → Option ℕ
from_mark rule = option_map (λ (source : RuleCause). source.mark) (slice_get rule.causes 0)

-- a cause holds the target from above
abbrev pub is_high : RuleCause → Bool
is_high source = is_some source.range.high

abbrev pub is_linear : RuleKind → Bool
is_linear Lin = true
is_linear Late = false
is_linear Early = false

-- a linear rule that holds its target from above
abbrev pub is_upper : RuleView → Bool
is_upper rule = is_linear rule.kind && list_any is_high rule.causes

-- the order of a lane draws the rule; it also leads from the last mark of a cycle to the first mark of the next cycle, where there is one
abbrev pub keeps_order : RuleView → Bool
keeps_order rule = option_map_or is_lane (drawn_by rule) false

abbrev pub same_mark : Option ℕ → Option ℕ → Bool
same_mark None b = true
same_mark (Some a) None = true
same_mark (Some a) (Some b) = a == b

-- a warning of a rule, if the rule has a cause
abbrev pub of_rule : ℕ → (DrawnPlace → Warning) → RuleView → List Warning
of_rule part gives rule = option_to_list (option_map (λ origin. gives (spot part origin)) (drawn_by rule))

-- ---- skews: edges that are drawn with `<` and `>`

-- the shape word, which stands before the first space, has both signs
abbrev pub is_skew : List ℕ → Bool
is_skew text = list_any (λ byte. byte == 60) (before_first is_space text) && list_any (λ byte. byte == 62) (before_first is_space text)

-- an edge with these texts of edges, or a wire with these texts of wires, is a skew
abbrev pub draws_skew : List (List ℕ) → Origin → Bool
draws_skew texts (drawn.Lane n) = false
draws_skew texts (drawn.Edge n) = option_map_or is_skew (slice_get texts n) false
draws_skew texts (drawn.Pin net pin) = false
draws_skew texts (drawn.Wire n) = option_map_or is_skew (slice_get texts n) false

-- a linear rule from another mark that holds its target from above, and is no skew; its edge has one of these texts. A rule from a mark to itself is a period.
abbrev pub is_cap : List (List ℕ) → RuleView → Bool
is_cap texts rule = is_upper rule && (not (same_mark (from_mark rule) (Some rule.target)) && not (option_map_or (draws_skew texts) (drawn_by rule) false))

-- ---- two rules from different marks that hold one mark from above

-- two such rules lead to one mark from different marks
abbrev pub meet : List (List ℕ) → RuleView → RuleView → Bool
meet texts a b = a.target == b.target && (not (same_mark (from_mark a) (from_mark b)) && (is_cap texts a && is_cap texts b))

abbrev pub of_two : ℕ → RuleView → Option RuleView → List Warning
of_two part rule None = []
of_two part rule (Some earlier) = option_to_list (option_map (λ origin. both_of (spot part origin) (spot part (unwrap_or (drawn_by rule) origin))) (drawn_by earlier))

-- the warning of a rule that meets a rule before it, with the first that it meets
abbrev pub rule_both : ℕ → List (List ℕ) → List RuleView → RuleView → List Warning
rule_both part texts before rule = of_two part rule (find (meet texts rule) before)

abbrev pub both_in : ℕ → List (List ℕ) → List RuleView → List Warning
both_in part texts rules = each_behind (rule_both part texts) [] rules

abbrev pub sheet_both : ℕ → SheetView → List Warning
sheet_both part sheet = both_in part sheet.edges sheet.rules

-- the lead of a wire to another mark caps a mark too: it is linear, has a high end, and is no skew
abbrev pub is_wire_cap : List (List ℕ) → Lead → Bool
is_wire_cap texts lead =
    is_wire lead.origin && (not (is_at lead.from lead.to) && (is_linear lead.kind && (is_some lead.range.high && not (draws_skew texts lead.origin))))

-- a rule on the sheet of the mark that a wire leads into comes from the mark that the wire comes from
abbrev pub comes_along : Lead → RuleView → Bool
comes_along lead rule = lead.from.part == lead.to.part && same_mark (from_mark rule) (Some lead.from.mark)

-- a rule on the sheet of the mark that a wire leads into caps this mark from another mark
abbrev pub caps_too : List (List ℕ) → Lead → RuleView → Bool
caps_too texts lead rule = rule.target == lead.to.mark && (not (comes_along lead rule) && is_cap texts rule)

abbrev pub across_by : Lead → Option RuleView → List Warning
across_by lead None = []
across_by lead (Some rule) = option_to_list (option_map (λ origin. both_of (spot lead.to.part origin) (spot netlist_part lead.origin)) (drawn_by rule))

-- the warning of a wire into a mark that a rule of the mark's sheet caps too, with the first such rule
abbrev pub across_on : Lead → Option SheetView → List Warning
across_on lead None = []
across_on lead (Some sheet) = across_by lead (find (caps_too sheet.edges lead) sheet.rules)

abbrev pub lead_across : List SheetView → List (List ℕ) → Lead → List Warning
lead_across sheets texts lead = if is_wire_cap texts lead then across_on lead (slice_get sheets lead.to.part) else []

-- first within each sheet, then within the netlist, then across
abbrev pub both_warnings : PlanView → DesignView → List Warning
both_warnings plan d =
    each_from sheet_both 0 d.sheets ++ (both_in netlist_part plan.netlist.edges d.rules ++ flat_map (lead_across d.sheets plan.netlist.edges) (leads_of d))

-- ---- latest and earliest rules with one cause

abbrev pub is_single : RuleView → Bool
is_single rule = not (is_linear rule.kind) && length rule.causes == 1

abbrev pub rule_single : ℕ → RuleView → List Warning
rule_single part rule = if is_single rule then of_rule part single_at rule else []

abbrev pub single_in : ℕ → List RuleView → List Warning
single_in part rules = flat_map (rule_single part) rules

abbrev pub sheet_single : ℕ → SheetView → List Warning
sheet_single part sheet = single_in part sheet.rules

abbrev pub single_warnings : DesignView → List Warning
single_warnings d = each_from sheet_single 0 d.sheets ++ single_in netlist_part d.rules
