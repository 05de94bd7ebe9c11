-- Clocks that are drawn with two periods, and marks that follow a clock and have no period of their own. Parts and marks are numbered from 0.
use Rattle.std.specs.Prelude.{ℤ, ℕ, ◌==◌, ◌&&◌, ◌||◌, nat_le, Bool, not, if◌then◌else◌, List, [], ◌∷◌, ◌++◌, find, Option, Some, None, is_some}
use Rattle.std.specs.List.{flat_map, list_any}
use Rattle.std.specs.Ordering.{int_eq}
use Rattle.std.specs.Option.{option_eq, option_map_or}
use Rattle.itv_base.specs.Range.{Ends}
use Rattle.sheet.specs.declared.mark.Mark.{Mark}
use Rattle.sheet.specs.SheetContents.{SheetView}
use Rattle.compose.specs.declared.mark.DesignMark.{DesignMark}
use Rattle.compose.specs.Design.{DesignView}
use Rattle.lint.specs.declared.lead.Lead.{Lead}
use Rattle.lint.specs.declared.clock.Clock.{Clock}
use Rattle.lint.specs.declared.crossings.Crossing.{Crossing}
use Rattle.lint.specs.declared.warning.DrawnPlace.{DrawnPlace}
use Rattle.lint.specs.declared.warning.Warning.{Warning}
use Rattle.lint.specs.Kinds.{follows_of, periods_of}
use Rattle.lint.specs.Leads.{crossings_of, is_at, is_edge, is_pin, leads_into, leads_of, mark_on}
use Rattle.lint.specs.Lists.{each_behind, each_from, spot}
use Rattle.lint.specs.Rules.{is_linear}

-- ---- periods

-- the lead goes from a mark to itself in a later cycle
abbrev pub is_period : Lead → Bool
is_period lead = is_at lead.from lead.to && nat_le 1 lead.shift

-- a mark has a period of its own
abbrev pub has_period : List Lead → DesignMark → Bool
has_period leads mark = list_any (λ lead. leads_into mark lead && is_period lead) leads

-- the first join of a net into a mark
abbrev pub is_join_into : DesignMark → Lead → Bool
is_join_into mark lead = leads_into mark lead && is_pin lead.origin

-- the mark that drives a mark by its first join, or the mark itself where there is none
abbrev pub driver_of : List Lead → DesignMark → DesignMark
driver_of leads mark = option_map_or (λ (lead : Lead). lead.from) (find (is_join_into mark) leads) mark

-- ---- two periods of one clock

abbrev pub same_end : Option ℤ → Option ℤ → Bool
same_end a b = option_eq int_eq a b

abbrev pub same_range : Ends → Ends → Bool
same_range a b = same_end a.low b.low && same_end a.high b.high

-- two places are on the sheet of one part, or both in the netlist
abbrev pub same_home : DrawnPlace → DrawnPlace → Bool
same_home a b = if is_edge a.origin then is_edge b.origin && a.part == b.part else not (is_edge b.origin)

-- the linear rule of a period, from the driver of its mark
abbrev pub lead_clock : List Lead → Lead → List Clock
lead_clock leads lead =
    if is_period lead && is_linear lead.kind
    then record { driver = driver_of leads lead.to; shift = lead.shift; range = lead.range; place = spot lead.to.part lead.origin } ∷ [] else []

abbrev pub clocks_of : List Lead → List Clock
clocks_of leads = flat_map (lead_clock leads) leads

-- two rules of different sheets, or of a sheet and the netlist, give the marks of one driver two periods
abbrev pub is_rival : Clock → Clock → Bool
is_rival a b = is_at a.driver b.driver && (a.shift == b.shift && (not (same_home a.place b.place) && not (same_range a.range b.range)))

abbrev pub rival_of : Clock → Option Clock → List Warning
rival_of clock None = []
rival_of clock (Some earlier) = periods_of earlier.place clock.place ∷ []

-- the warning of a rule with another period than a rule before it, with the first such rule
abbrev pub clock_periods : List Clock → Clock → List Warning
clock_periods before clock = rival_of clock (find (is_rival clock) before)

-- ---- marks that follow a clock

-- a range is one number
abbrev pub is_one_value : Ends → Bool
is_one_value range = is_some range.low && same_end range.low range.high

-- a mark has a period: it has one of its own, or its driver has one
abbrev pub is_timed : List Lead → DesignMark → Bool
is_timed leads mark = has_period leads mark || has_period leads (driver_of leads mark)

-- a row crosses from a mark without a period of its own into a mark of a later cycle: there the delays of two cycles are compared
abbrev pub is_crossed : List Lead → List Crossing → DesignMark → Bool
is_crossed leads crossings mark = list_any (λ (crossing : Crossing). is_at crossing.to mark && not (has_period leads crossing.from)) crossings

-- a mark follows a clock by a lead into it, which is linear and has a range of more than one number
unfoldable pub follows_by : List Lead → DesignMark → Lead → Bool
follows_by leads mark lead = leads_into mark lead && (is_linear lead.kind && (not (is_one_value lead.range) && is_timed leads lead.from))

abbrev pub period_by : List Lead → List Crossing → DesignMark → Option Lead → List Warning
period_by leads crossings mark None = []
period_by leads crossings mark (Some lead) =
    if not (has_period leads mark) && is_crossed leads crossings mark then follows_of mark (spot mark.part lead.origin) ∷ [] else []

-- the warning of a mark that follows a clock, with the first lead by which it does
abbrev pub mark_period : List Lead → List Crossing → DesignMark → List Warning
mark_period leads crossings mark = period_by leads crossings mark (find (follows_by leads mark) leads)

abbrev pub place_period : List Lead → List Crossing → ℕ → ℕ → Mark → List Warning
place_period leads crossings part k mark = mark_period leads crossings (mark_on part k)

abbrev pub sheet_periods : List Lead → List Crossing → ℕ → SheetView → List Warning
sheet_periods leads crossings part sheet = each_from (place_period leads crossings part) 0 sheet.marks

-- ---- both

abbrev pub period_warnings : DesignView → List Warning
period_warnings d = each_behind clock_periods [] (clocks_of (leads_of d)) ++ each_from (sheet_periods (leads_of d) (crossings_of d)) 0 d.sheets
