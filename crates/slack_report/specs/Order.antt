-- The order of a report's lines: which line may stand at which place, and to what place it leads.
use Rattle.std.specs.Prelude.{◌≡◌, ◌+◌, ◌==◌, ℕ, zero, suc, Bool, true, false, if◌then◌else◌, List, [], ◌∷◌, Option, Some, None}
use Rattle.requirements.specs.declared.bound.Bound.{Bound}
use Rattle.requirements.specs.declared.bound.Bound.TheVariants as bounds
use Rattle.requirements.specs.declared.verdict.Verdict.{Verdict}
use Rattle.requirements.specs.declared.verdict.Verdict.TheVariants as verdicts
use Rattle.itv_base.specs.declared.row_kind.RowKind.{RowKind}
use Rattle.itv_base.specs.declared.row_kind.RowKind.TheVariants as kinds
use Rattle.requirements.specs.declared.consistency.Consistency.{Consistency}
use Rattle.requirements.specs.declared.consistency.Consistency.TheVariants as findings
use Rattle.slack_report.specs.declared.words.Which.{Which}
use Rattle.slack_report.specs.declared.words.Which.TheVariants as sorts
use Rattle.slack_report.specs.declared.place.Place.{Place}
use Rattle.slack_report.specs.declared.place.Place.TheVariants as at
use Rattle.slack_report.specs.declared.place.Spot.{Spot}
use Rattle.slack_report.specs.Entry.{Entry, IsReportEntry, heading, budget, events, event, proof, finding, times, rows, row, bound, raise, verdict, slack, ending}

-- the number of the report's events, or 0 where it is not known yet or no longer needed
abbrev pub events_at : Place → ℕ
events_at at.Heading = 0
events_at at.Budget = 0
events_at at.Events = 0
events_at (at.Event count number more) = count
events_at (at.Finding count) = count
events_at (at.FoundTimes count) = count
events_at (at.Rows count) = count
events_at (at.Row count number more) = count
events_at (at.Bound spot which) = spot.events
events_at (at.Times spot which raises) = spot.events
events_at (at.Raise spot which) = spot.events
events_at (at.Verdict spot) = spot.events
events_at (at.FailTimes spot) = spot.events
events_at (at.Slack spot) = spot.events
events_at at.End = 0
events_at at.Nothing = 0

-- the place before the event with this number, or before the finding if no events are left. The last argument counts this event and the events after
-- it
abbrev pub before_event : ℕ → ℕ → ℕ → Place
before_event count number zero = at.Finding count
before_event count number (suc more) = at.Event count number more

-- the place before the row with this number, or before the end if no rows are left. The last argument counts this row and the rows after it
abbrev pub before_row : ℕ → ℕ → ℕ → Place
before_row count number zero = at.End
before_row count number (suc more) = at.Row count number more

abbrev pub is_required : RowKind → Bool
is_required kinds.Ask = false
is_required (kinds.Req ends) = true

-- the place after the first line of a row
abbrev pub in_row : ℕ → ℕ → ℕ → RowKind → Place
in_row count number more kind = at.Bound (record { events = count; next = number + 1; left = more; is_required = is_required kind }) sorts.Max

abbrev pub after_finding : ℕ → Consistency → Place
after_finding count findings.Consistent = at.FoundTimes count
after_finding count findings.Inconsistent = at.End
after_finding count findings.Open = at.Rows count

abbrev pub after_row : Spot → Place
after_row spot = before_row spot.events spot.next spot.left

-- the place after a bound and all its lines: before the other bound, the verdict or the next row
abbrev pub after_bound : Spot → Which → Place
after_bound spot sorts.Max = at.Bound spot sorts.Min
after_bound spot sorts.Min = if spot.is_required then at.Verdict spot else after_row spot

-- the place after the line of a bound
abbrev pub in_bound : Spot → Which → Bound → Place
in_bound spot which (bounds.Closed value) = at.Times spot which false
in_bound spot which bounds.Unbounded = at.Times spot which true
in_bound spot which (bounds.Within limit None) = after_bound spot which
in_bound spot which (bounds.Within limit (Some found)) = at.Times spot which false

-- the place after the times of a bound
abbrev pub after_times : Spot → Which → Bool → Place
after_times spot which raises = if raises then at.Raise spot which else after_bound spot which

abbrev pub after_verdict : Spot → Verdict → Place
after_verdict spot verdicts.Pass = at.Slack spot
after_verdict spot verdicts.FailHigh = at.FailTimes spot
after_verdict spot verdicts.FailLow = at.FailTimes spot
after_verdict spot verdicts.Undecided = at.Slack spot

abbrev pub is_which : Which → Which → Bool
is_which sorts.Max sorts.Max = true
is_which sorts.Max sorts.Min = false
is_which sorts.Min sorts.Max = false
is_which sorts.Min sorts.Min = true

-- the place after a line, or none if the line may not stand at this place
abbrev pub next : Place → Entry → Option Place
next at.Heading heading = Some at.Budget
next at.Budget (budget most) = Some at.Events
next at.Events (events number) = Some (before_event number 0 number)
next (at.Event count expected more) (event number name) = if number == expected then Some (before_event count (expected + 1) more) else None
next (at.Finding count) (proof line) = Some (at.Finding count)
next (at.Finding count) (finding word) = Some (after_finding count word)
next (at.FoundTimes count) (times list) = Some (at.Rows count)
next (at.Rows count) (rows number) = Some (before_row count 0 number)
next (at.Row count expected more) (row number kind from to) = if number == expected then Some (in_row count expected more kind) else None
next (at.Bound spot which) (proof line) = Some (at.Bound spot which)
next (at.Bound spot which) (bound word value) = if is_which word which then Some (in_bound spot which value) else None
next (at.Times spot which raises) (times list) = Some (after_times spot which raises)
next (at.Raise spot which) (raise set) = Some (after_bound spot which)
next (at.Verdict spot) (verdict word) = Some (after_verdict spot word)
next (at.FailTimes spot) (times list) = Some (at.Slack spot)
next (at.Slack spot) (slack value) = Some (after_row spot)
next at.End (ending word) = Some at.Nothing
next place entry = None

-- the line may stand at this place, and leads to the other
pub record OrderStep (place : Place) (entry : Entry) (behind : Place) : Type 0 where
  pub is_entry : IsReportEntry (events_at place) entry
  pub leads : next place entry ≡ Some behind

-- the lines may stand one after another from a place on, and lead to the last place
abbrev pub OrderLeads : Place → List Entry → Place → Type 0
OrderLeads place [] last = place ≡ last
OrderLeads place (entry ∷ entries) last = (behind : Place) × OrderStep place entry behind × OrderLeads behind entries last

-- the lines of a whole report
abbrev pub IsReport : List Entry → Type 0
IsReport entries = OrderLeads at.Heading entries at.Nothing

-- lines that begin a report, in their order
abbrev pub BeginsReport : List Entry → Type 0
BeginsReport entries = (place : Place) × OrderLeads at.Heading entries place
