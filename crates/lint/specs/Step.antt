-- Words of contracts within this crate: how its functions find warnings.
use Rattle.std.specs.Prelude.{◌≡◌, ℕ, Bool, ◌*◌, ◌==◌, ◌&&◌, ◌||◌, false, not, nat_lt, if◌then◌else◌, List, [], ◌∷◌, ◌++◌, length, Option, Some, None, find, is_some, option_map, slice_get, count_by, All}
use Rattle.std.specs.HashMap.{get, HashMap}
use Rattle.std.specs.List.{after_first, flat_map, list_any}
use Rattle.std.specs.Option.{option_map_or, option_to_list}
use Rattle.std.specs.declared.hash.BuildHasherDefault.{BuildHasherDefault}
use Rattle.std.specs.declared.hash.FoldHasher.{FoldHasher}
use Rattle.itv_base.specs.Cuts.{after_while, is_space}
use Rattle.label_grammar.specs.Edge.{EdgeSeen, edge_of}
use Rattle.label_grammar.specs.Wire.{WireSeen, wire_of}
use Rattle.origin.specs.declared.origin.Origin.TheVariants as drawn
use Rattle.sheet.specs.declared.mark.Mark.{Mark}
use Rattle.sheet.specs.declared.rule.RuleCause.{RuleCause}
use Rattle.sheet.specs.Rule.{RuleView}
use Rattle.sheet.specs.SheetContents.{SheetView}
use Rattle.compose.specs.declared.joins.PinJoins.{PinJoins}
use Rattle.compose.specs.declared.mark.DesignMark.{DesignMark}
use Rattle.compose.specs.Design.{DesignView, IsDesign, IsJoinOf}
use Rattle.compose.specs.Joins.{pin_joins}
use Rattle.design_plan.specs.Plan.{PlanView}
use Rattle.lint.specs.declared.clock.Clock.{Clock}
use Rattle.lint.specs.declared.crossings.Crossing.{Crossing}
use Rattle.lint.specs.declared.first_two.FirstTwo.{FirstTwo}
use Rattle.lint.specs.declared.lead.Lead.{Lead}
use Rattle.lint.specs.declared.texts.TextCheck.{TextCheck}
use Rattle.lint.specs.declared.texts.TextCheck.TheVariants as checks
use Rattle.lint.specs.declared.warning.DrawnPlace.{DrawnPlace}
use Rattle.lint.specs.declared.warning.Warning.{Warning}
use Rattle.lint.specs.Kinds.{both_of, comment_at, drivers_of, note_at, own_of, follows_of, word_at}
use Rattle.lint.specs.Driven.{holds}
use Rattle.lint.specs.Leads.{is_at, leads_into, mark_on}
use Rattle.lint.specs.Lists.{each_from, netlist_part, spot, warned}
use Rattle.lint.specs.Periods.{is_one_value, is_period}
use Rattle.lint.specs.Rules.{drawn_by, is_cap, is_linear, is_wire_cap}
use Rattle.lint.specs.Texts.{begins_with_kind, edge_written, is_before_word, is_edge_comment, is_misplaced, is_sign, is_wire_comment, wire_written}

-- ---- checks of the texts of edges

abbrev pub warning_at : TextCheck → DrawnPlace → Warning
warning_at checks.Comment place = comment_at place
warning_at checks.Word place = word_at place
warning_at checks.Note place = note_at place

-- a note begins, from its first word on, as what belongs before it
abbrev pub is_note_misplaced : List ℕ → Bool
is_note_misplaced note = is_misplaced (after_while is_before_word note)

-- a check gives a warning of a text, which was read as an edge of a sheet
abbrev pub is_edge_given : TextCheck → ℕ → EdgeSeen → List ℕ → Bool
is_edge_given checks.Comment version edge text = is_edge_comment edge && list_any is_sign text
is_edge_given checks.Word version edge text = is_edge_comment edge && (not (list_any is_sign text) && begins_with_kind (after_first is_space text))
is_edge_given checks.Note version edge text = is_note_misplaced (edge_written version edge)

-- a check gives a warning of a text, which was read as an edge of the netlist
abbrev pub is_wire_given : TextCheck → WireSeen → List ℕ → Bool
is_wire_given checks.Comment wire text = is_wire_comment wire && list_any is_sign text
is_wire_given checks.Word wire text = is_wire_comment wire && (not (list_any is_sign text) && begins_with_kind (after_first is_space (after_first is_space text)))
is_wire_given checks.Note wire text = is_note_misplaced (wire_written wire)

abbrev pub edge_checked : TextCheck → ℕ → ℕ → ℕ → List ℕ → List Warning
edge_checked check version part n text = warned (is_edge_given check version (edge_of text) text) (warning_at check (spot part (drawn.Edge n)))

abbrev pub wire_checked : TextCheck → ℕ → List ℕ → List Warning
wire_checked check n text = warned (is_wire_given check (wire_of text) text) (warning_at check (spot netlist_part (drawn.Wire n)))

abbrev pub sheet_checked : TextCheck → ℕ → ℕ → SheetView → List Warning
sheet_checked check version part sheet = each_from (edge_checked check version part) 0 sheet.edges

abbrev pub checked_warnings : TextCheck → PlanView → DesignView → List Warning
checked_warnings check plan d = each_from (sheet_checked check plan.netlist.version) 0 d.sheets ++ each_from (wire_checked check) 0 plan.netlist.edges

-- ---- the middle of sizes

-- more than half of some sizes are above a number
abbrev pub has_most_above : List ℕ → ℕ → Bool
has_most_above sizes number = nat_lt (length sizes) (2 * count_by (nat_lt number) sizes)

-- more than half of the sizes are above all lower numbers, and above no other number
abbrev pub IsMiddle : List ℕ → ℕ → Type 0
IsMiddle sizes middle = (number : ℕ) → has_most_above sizes number ≡ nat_lt number middle

-- 200 times a size is below the middle
abbrev pub is_below : ℕ → ℕ → Bool
is_below middle size = nat_lt (200 * size) middle

-- ---- tables of the first leads into marks

-- two marks are one, as keys of a table
abbrev pub same_mark_key : ℕ × ℕ → ℕ × ℕ → Bool
same_mark_key a b = a.0 == b.0 && a.1 == b.1

-- a lead for each of some marks
abbrev pub FirstLeads : Type 0
FirstLeads = HashMap (ℕ × ℕ) Lead (BuildHasherDefault FoldHasher)

-- the lead of a mark
abbrev pub first_at : FirstLeads → DesignMark → Option Lead
first_at firsts mark = get same_mark_key firsts (mark.part, mark.mark)

-- a lead that is given, at the mark that it goes into
abbrev pub given_at : DesignMark → Bool → Lead → Option Lead
given_at mark given lead = if leads_into mark lead && given then Some lead else None

-- each mark has the first of some leads of which this holds
abbrev pub AreFirst : (DesignMark → Lead → Bool) → FirstLeads → List Lead → Type 0
AreFirst test firsts leads = (mark : DesignMark) → first_at firsts mark ≡ find (test mark) leads

-- ---- periods, according to tables of the first periods of marks, of the first joins into marks, and of the first leads by which marks follow clocks

-- a lead gives a mark a period of its own
abbrev pub is_period_into : DesignMark → Lead → Bool
is_period_into mark lead = leads_into mark lead && is_period lead

-- the mark that drives a mark, or the mark itself
abbrev pub driver_by : FirstLeads → DesignMark → DesignMark
driver_by joins mark = option_map_or (λ (lead : Lead). lead.from) (first_at joins mark) mark

abbrev pub clock_by : FirstLeads → Lead → List Clock
clock_by joins lead =
    if is_period lead && is_linear lead.kind
    then record { driver = driver_by joins lead.to; shift = lead.shift; range = lead.range; place = spot lead.to.part lead.origin } ∷ [] else []

-- a mark has a period of its own, or its driver has one
abbrev pub timed_by : FirstLeads → FirstLeads → DesignMark → Bool
timed_by joins periods mark = is_some (first_at periods mark) || is_some (first_at periods (driver_by joins mark))

-- marks follow clocks by a lead
abbrev pub follows_clock : FirstLeads → FirstLeads → Lead → Bool
follows_clock joins periods lead = is_linear lead.kind && (not (is_one_value lead.range) && timed_by joins periods lead.from)

-- a row crosses from a mark without a period of its own into a mark of a later cycle
abbrev pub crossed_by : FirstLeads → List Crossing → DesignMark → Bool
crossed_by periods crossings mark = list_any (λ (crossing : Crossing). is_at crossing.to mark && not (is_some (first_at periods crossing.from))) crossings

-- the warning of a mark that follows a clock by a lead
abbrev pub clocked_by : FirstLeads → List Crossing → DesignMark → Option Lead → List Warning
clocked_by periods crossings mark None = []
clocked_by periods crossings mark (Some lead) =
    if not (is_some (first_at periods mark)) && crossed_by periods crossings mark then follows_of mark (spot mark.part lead.origin) ∷ [] else []

abbrev pub place_clocked : FirstLeads → FirstLeads → List Crossing → ℕ → ℕ → Mark → List Warning
place_clocked periods clocks crossings part k mark = clocked_by periods crossings (mark_on part k) (first_at clocks (mark_on part k))

abbrev pub sheet_clocked : FirstLeads → FirstLeads → List Crossing → ℕ → SheetView → List Warning
sheet_clocked periods clocks crossings part sheet = each_from (place_clocked periods clocks crossings part) 0 sheet.marks

-- ---- tables of the first two leads into marks

-- a lead goes into the mark of another one, from another mark
abbrev pub meets : Lead → Lead → Bool
meets lead other = leads_into lead.to other && not (is_at other.from lead.from)

-- a lead goes into a mark, from another mark than the first lead
abbrev pub is_second : DesignMark → Lead → Lead → Bool
is_second mark first lead = leads_into mark lead && not (is_at lead.from first.from)

abbrev pub second_after : List Lead → DesignMark → Option Lead → Option Lead
second_after leads mark None = None
second_after leads mark (Some first) = find (is_second mark first) leads

-- the tables have the first of some leads into each mark, and the first one that comes from another mark than this one
pub record AreFirstTwo (tables : FirstTwo) (leads : List Lead) : Type 0 where
  pub firsts : (mark : DesignMark) → first_at tables.firsts mark ≡ find (leads_into mark) leads
  pub seconds : (mark : DesignMark) → first_at tables.seconds mark ≡ second_after leads mark (find (leads_into mark) leads)

-- a lead comes from another mark than the first one, if there is a first one
abbrev pub differs : Option Lead → Lead → Bool
differs None lead = false
differs (Some first) lead = not (is_at lead.from first.from)

-- the first lead that a lead meets, according to the two leads into its mark
abbrev pub met_by : Option Lead → Option Lead → Lead → Option Lead
met_by None second lead = None
met_by (Some first) second lead = if is_at first.from lead.from then second else Some first

abbrev pub met_in : FirstTwo → Lead → Option Lead
met_in tables lead = met_by (first_at tables.firsts lead.to) (first_at tables.seconds lead.to) lead

-- ---- joins

-- the joins of a pin are joins of a design
pub record IsPinOf (d : DesignView) (pin : PinJoins) : Type 0 where
  pub design : IsDesign d
  pub joins : All (IsJoinOf d.sheets) (pin_joins pin)

-- the warning of a lead of a join with an earlier one that it meets, if there is one
abbrev pub drivers_at : Lead → Option Lead → List Warning
drivers_at join None = []
drivers_at join (Some earlier) = drivers_of join.to earlier.origin join.origin ∷ []

abbrev pub lead_drivers : List Lead → Lead → List Warning
lead_drivers before join = drivers_at join (find (meets join) before)

-- the warning of a lead of a join with a rule, if there is one
abbrev pub own_with : Lead → Option RuleView → List Warning
own_with join None = []
own_with join (Some rule) = option_to_list (option_map (own_of join.to join.origin) (drawn_by rule))

-- the warning of a lead of a join into a mark of a sheet
abbrev pub own_on : Lead → Option SheetView → List Warning
own_on join None = []
own_on join (Some sheet) = own_with join (find (holds join.to.mark) sheet.rules)

-- ---- rules that cap marks, as leads

-- the lead of the first cause of a rule on the sheet of a part
abbrev pub cap_lead : ℕ → RuleView → RuleCause → Lead
cap_lead part rule source =
    record { from = mark_on part source.mark; to = mark_on part rule.target; kind = rule.kind; shift = source.shift; range = source.range; origin = source.origin }

-- the lead of a rule that caps a mark
abbrev pub rule_caps : ℕ → List (List ℕ) → RuleView → List Lead
rule_caps part texts rule = if is_cap texts rule then option_to_list (option_map (cap_lead part rule) (slice_get rule.causes 0)) else []

abbrev pub caps_in : ℕ → List (List ℕ) → List RuleView → List Lead
caps_in part texts rules = flat_map (rule_caps part texts) rules

abbrev pub sheet_caps : ℕ → SheetView → List Lead
sheet_caps part sheet = caps_in part sheet.edges sheet.rules

-- the warning of a place with a cap that it meets, if there is one
abbrev pub both_at : DrawnPlace → Option Lead → List Warning
both_at place None = []
both_at place (Some cap) = both_of (spot cap.to.part cap.origin) place ∷ []

-- the warning of a cap after others, with the first one that it meets
abbrev pub cap_both : List Lead → Lead → List Warning
cap_both before cap = both_at (spot cap.to.part cap.origin) (find (meets cap) before)

-- the warning of a wire and a cap that it meets
abbrev pub lead_met : FirstTwo → List (List ℕ) → Lead → List Warning
lead_met tables texts lead = if is_wire_cap texts lead then both_at (spot netlist_part lead.origin) (met_in tables lead) else []
