-- The places in the order of texts at which right reports are in their states.
use Rattle.std.specs.Prelude.{◌≡◌, ◌+◌, ℕ, Bool, true, false, List, length, Some}
use Rattle.requirements.specs.declared.bound.Bound.{Bound}
use Rattle.requirements.specs.declared.bound.Bound.TheVariants as bounds
use Rattle.slack_report.specs.declared.place.Place.{Place}
use Rattle.slack_report.specs.declared.place.Place.TheVariants as at
use Rattle.slack_report.specs.declared.place.Spot.{Spot}
use Rattle.slack_report.specs.Entry.{Entry}
use Rattle.slack_report.specs.Order.{before_event, before_row, is_required, next}
use Rattle.drawn_networks.specs.Drawn.{Drawn}
use Rattle.drawn_networks.specs.declared.row.Row.{Row}
use Rattle.right_report.specs.Right.ReportState.{ReportState, CurrentRow, at_heading, at_budget, at_events, at_event, at_finding, at_known, at_rows, at_row, at_bound, at_times, at_raise, at_verdict, at_past, at_slack, at_end, at_last, which_of}
use Rattle.right_report.specs.Right.LineClaims.{right}
use Rattle.right_report.specs.Right.Following.{MayFollow}

abbrev pub is_unbounded : Bound → Bool
is_unbounded (bounds.Closed value) = false
is_unbounded bounds.Unbounded = true
is_unbounded (bounds.Within limit attained) = false

-- the spot of a row in the order of texts: the number of the row after it, how many rows are left, and whether this row demands a range
abbrev pub spot_behind : Drawn → ℕ → List Row → Bool → Spot
spot_behind drawn number later required = record { events = length drawn.names; next = number; left = length later; is_required = required }

abbrev pub spot_of : Drawn → CurrentRow → Spot
spot_of drawn row = spot_behind drawn (row.number + 1) row.later (is_required row.row.kind)

abbrev pub place_of : Drawn → ReportState → Place
place_of drawn at_heading = at.Heading
place_of drawn at_budget = at.Budget
place_of drawn at_events = at.Events
place_of drawn (at_event number names) = before_event (length drawn.names) number (length names)
place_of drawn (at_finding lines) = at.Finding (length drawn.names)
place_of drawn at_known = at.FoundTimes (length drawn.names)
place_of drawn (at_rows word) = at.Rows (length drawn.names)
place_of drawn (at_row tally number later) = before_row (length drawn.names) number (length later)
place_of drawn (at_bound row coming lines) = at.Bound (spot_of drawn row) (which_of coming)
place_of drawn (at_times row coming value) = at.Times (spot_of drawn row) (which_of coming) (is_unbounded value)
place_of drawn (at_raise row coming list) = at.Raise (spot_of drawn row) (which_of coming)
place_of drawn (at_verdict row range least most) = at.Verdict (spot_behind drawn (row.number + 1) row.later true)
place_of drawn (at_past row range least most) = at.FailTimes (spot_behind drawn (row.number + 1) row.later true)
place_of drawn (at_slack tally number later range least most) = at.Slack (spot_behind drawn number later true)
place_of drawn (at_end word) = at.End
place_of drawn at_last = at.Nothing

-- a line that may follow in a right report may stand at the same place in the order of texts, and leads to the same place
abbrev pub RightLinesKeepOrder : Type 0
RightLinesKeepOrder = (drawn : Drawn) (here : ReportState) (line : Entry) (behind : ReportState) → MayFollow (right drawn.net) drawn here line behind
    → next (place_of drawn here) line ≡ Some (place_of drawn behind)
