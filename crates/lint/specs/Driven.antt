-- Marks that follow drivers, and may be held otherwise than was meant. Parts, marks and lanes are numbered from 0.
use Rattle.std.specs.Prelude.{ℕ, ◌==◌, ◌&&◌, ◌||◌, Bool, false, not, if◌then◌else◌, List, [], ◌∷◌, ◌++◌, find, Option, Some, None, is_some, option_map, slice_get}
use Rattle.std.specs.List.{flat_map, list_any}
use Rattle.std.specs.Option.{option_to_list}
use Rattle.sheet.specs.declared.mark.Mark.{Mark}
use Rattle.sheet.specs.declared.rule.RuleCause.{RuleCause}
use Rattle.sheet.specs.SheetContents.{SheetView}
use Rattle.sheet.specs.Rule.{RuleView}
use Rattle.compose.specs.declared.joins.Join.{Join}
use Rattle.compose.specs.declared.mark.DesignMark.{DesignMark}
use Rattle.compose.specs.Design.{DesignView}
use Rattle.lint.specs.declared.lead.Lead.{Lead}
use Rattle.lint.specs.declared.warning.Warning.{Warning}
use Rattle.lint.specs.Kinds.{drivers_of, held_of, own_of}
use Rattle.lint.specs.Leads.{is_at, is_edge, leads_of, rules_at}
use Rattle.lint.specs.Lists.{each_behind}
use Rattle.lint.specs.Rules.{drawn_by, is_high, is_linear, keeps_order}

-- ---- marks that follow two drivers

abbrev pub two_drivers : Join → Option Join → List Warning
two_drivers join None = []
two_drivers join (Some earlier) = drivers_of join.to earlier.origin join.origin ∷ []

-- another join goes into the mark of a join, from another mark
abbrev pub drives_too : Join → Join → Bool
drives_too join other = is_at other.to join.to && not (is_at other.from join.from)

-- the warning of a join into a mark that a join from another mark goes into before it, with the first join that does
abbrev pub join_drivers : List Join → Join → List Warning
join_drivers before join = two_drivers join (find (drives_too join) before)

abbrev pub driver_warnings : DesignView → List Warning
driver_warnings d = each_behind join_drivers [] d.joins

-- ---- marks with a driver and a rule of their own from above

-- a cause holds a mark from above, and is another mark
abbrev pub is_high_from_other : ℕ → RuleCause → Bool
is_high_from_other mark source = is_high source && not (source.mark == mark)

-- the rule holds this mark of its sheet from above, after another mark; so neither a period does, nor the order of a lane
abbrev pub holds : ℕ → RuleView → Bool
holds mark rule = rule.target == mark && list_any (is_high_from_other mark) rule.causes

abbrev pub own_by : Join → Option RuleView → List Warning
own_by join None = []
own_by join (Some rule) = option_to_list (option_map (own_of join.to join.origin) (drawn_by rule))

-- the first rule of the sheet of a part that holds a mark of the sheet from above, after another mark
abbrev pub own_rule : List SheetView → DesignMark → Option RuleView
own_rule sheets mark = find (holds mark.mark) (rules_at sheets mark.part)

abbrev pub own_join : List SheetView → Join → List Warning
own_join sheets join = own_by join (own_rule sheets join.to)

abbrev pub own_warnings : DesignView → List Warning
own_warnings d = flat_map (own_join d.sheets) d.joins

-- ---- marks with a driver and a requirement on them that is drawn as a rule

-- a cause bounds the target from below alone
abbrev pub is_low_alone : RuleCause → Bool
is_low_alone source = is_some source.range.low && not (is_some source.range.high)

-- an edge measures from a mark of its sheet
abbrev pub measures_from : ℕ → RuleView → Bool
measures_from mark rule = not (keeps_order rule) && list_any (λ (source : RuleCause). source.mark == mark) rule.causes

abbrev pub on_one_lane : Option Mark → Option Mark → Bool
on_one_lane None b = false
on_one_lane (Some a) None = false
on_one_lane (Some a) (Some b) = a.lane == b.lane

-- a cause stands on the lane of a mark, among the marks of their sheet
abbrev pub is_beside : List Mark → ℕ → RuleCause → Bool
is_beside marks mark source = on_one_lane (slice_get marks mark) (slice_get marks source.mark)

-- a linear rule that an edge draws bounds a mark from below alone; its cause stands on the mark's lane, or the sheet measures from the mark
abbrev pub holds_below : Bool → List Mark → ℕ → RuleView → Bool
holds_below measured marks mark rule =
    rule.target == mark && (not (keeps_order rule) && (is_linear rule.kind && (list_any is_low_alone rule.causes && (measured || list_any (is_beside marks mark) rule.causes))))

-- the first rule of a sheet that bounds a mark so
abbrev pub rule_below : SheetView → ℕ → Option RuleView
rule_below sheet mark = find (holds_below (list_any (measures_from mark) sheet.rules) sheet.marks mark) sheet.rules

abbrev pub held_by : Lead → Option RuleView → List Warning
held_by lead None = []
held_by lead (Some rule) = option_to_list (option_map (held_of lead.to lead.origin) (drawn_by rule))

abbrev pub held_on : Lead → Option SheetView → List Warning
held_on lead None = []
held_on lead (Some sheet) = held_by lead (rule_below sheet lead.to.mark)

-- the warning of a mark that a join or a wire leads into
abbrev pub lead_held : List SheetView → Lead → List Warning
lead_held sheets lead = if is_edge lead.origin then [] else held_on lead (slice_get sheets lead.to.part)

abbrev pub held_warnings : DesignView → List Warning
held_warnings d = flat_map (lead_held d.sheets) (leads_of d)

-- ---- all of them

abbrev pub join_warnings : DesignView → List Warning
join_warnings d = driver_warnings d ++ (own_warnings d ++ held_warnings d)
