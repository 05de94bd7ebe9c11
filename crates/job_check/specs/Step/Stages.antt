-- The stages of a check as states of a report, and what a line decides at a stage.
use Rattle.std.specs.Prelude.{◌≡◌, ◌<◌, ◌≤◌, ◌+◌, ◌^◌, Bool, true, false, [], All, length, drop, Option, Some, None}
use Rattle.event_graph.specs.Times.{IsTime}
use Rattle.requirements.specs.Bounds.{HasTimes}
use Rattle.requirements.specs.declared.bound.BothBounds.{BothBounds}
use Rattle.slack_report.specs.Entry.{Entry, proof}
use Rattle.right_report.specs.Right.ReportState as places
use Rattle.right_report.specs.Right.ReportState.{ReportState, at_heading, at_budget, at_events, at_event, at_known, at_rows, at_row, at_bound, at_times, at_raise, at_verdict, at_past, at_slack, at_end, at_last}
use Rattle.drawn_networks.specs.Drawn.{Drawn}
use Rattle.right_report.specs.Right.Following.{MayFollow}
use Rattle.right_report.specs.Checked.{checked}
use Rattle.job_check.specs.declared.stage.NextBound.{NextBound}
use Rattle.job_check.specs.declared.stage.NextBound.TheVariants.{Greatest, LeastBy}
use Rattle.job_check.specs.declared.stage.Stage.{Stage}
use Rattle.job_check.specs.declared.stage.Stage.TheVariants as stages
use Rattle.job_check.specs.declared.stage.CurrentRow.{CurrentRow}

-- ---- the state of a stage

abbrev pub next_in : NextBound → places.NextBound
next_in Greatest = places.greatest
next_in (LeastBy most) = places.least_by most

abbrev pub current_in : Drawn → CurrentRow → places.CurrentRow
current_in drawn current = record { tally = current.tally; number = current.number; row = current.row; later = drop (current.number + 1) drawn.rows }

abbrev pub at_of : Drawn → Stage → ReportState
at_of drawn stages.Heading = at_heading
at_of drawn stages.Budget = at_budget
at_of drawn stages.Events = at_events
at_of drawn (stages.Event number) = at_event number (drop number drawn.names)
at_of drawn stages.Known = at_known
at_of drawn (stages.Rows word) = at_rows word
at_of drawn (stages.Row tally number) = at_row tally number (drop number drawn.rows)
at_of drawn (stages.Bound current coming) = at_bound (current_in drawn current) (next_in coming) []
at_of drawn (stages.Times current coming value) = at_times (current_in drawn current) (next_in coming) value
at_of drawn (stages.Raise current coming times) = at_raise (current_in drawn current) (next_in coming) times.now
at_of drawn (stages.Verdict current range both) = at_verdict (current_in drawn current) range both.least both.greatest
at_of drawn (stages.Past current range both) = at_past (current_in drawn current) range both.least both.greatest
at_of drawn (stages.Slack tally number range both) = at_slack tally number (drop number drawn.rows) range both.least both.greatest
at_of drawn (stages.End word) = at_end word
at_of drawn stages.Done = at_last

-- ---- what a stage keeps

-- the events and the number of the row are there, and the number is below 2^32
pub record IsCurrentRow (drawn : Drawn) (current : CurrentRow) : Type 0 where
  pub from : current.row.from.0 < drawn.net.events
  pub to : current.row.to.0 < drawn.net.events
  pub number : current.number < length drawn.rows
  pub small : current.number < 2 ^ 32

abbrev pub IsNextBound : NextBound → Type 0
IsNextBound Greatest = Unit {0}
IsNextBound (LeastBy most) = HasTimes most

abbrev pub AreBounded : BothBounds → Type 0
AreBounded both = HasTimes both.least × HasTimes both.greatest

-- the numbers of events and rows are there or next, and the times and the numbers of bounds are below 2^61 in absolute value
abbrev pub Fits : Drawn → Stage → Type 0
Fits drawn stages.Heading = Unit {0}
Fits drawn stages.Budget = Unit {0}
Fits drawn stages.Events = Unit {0}
Fits drawn (stages.Event number) = number ≤ length drawn.names
Fits drawn stages.Known = Unit {0}
Fits drawn (stages.Rows word) = Unit {0}
Fits drawn (stages.Row tally number) = number ≤ length drawn.rows
Fits drawn (stages.Bound current coming) = IsCurrentRow drawn current × IsNextBound coming
Fits drawn (stages.Times current coming value) = IsCurrentRow drawn current × IsNextBound coming × HasTimes value
Fits drawn (stages.Raise current coming times) = IsCurrentRow drawn current × IsNextBound coming × All IsTime times.now × (length times.now ≡ drawn.net.events)
Fits drawn (stages.Verdict current range both) = IsCurrentRow drawn current × AreBounded both
Fits drawn (stages.Past current range both) = IsCurrentRow drawn current × AreBounded both
Fits drawn (stages.Slack tally number range both) = (number ≤ length drawn.rows) × AreBounded both
Fits drawn (stages.End word) = Unit {0}
Fits drawn stages.Done = Unit {0}

-- ---- what a line decides

abbrev pub is_proof : Entry → Bool
is_proof (proof line) = true
is_proof other = false

-- a line that is no proof line leads from a state to the state of a stage, or may not follow
abbrev pub Decides : Drawn → ReportState → Entry → Option Stage → Type 0
Decides drawn here line None = (next : ReportState) → MayFollow (checked drawn.net) drawn here line next → ⊥
Decides drawn here line (Some stage) = MayFollow (checked drawn.net) drawn here line (at_of drawn stage) × (is_proof line ≡ false) × Fits drawn stage

-- no proof line may come at the stage
abbrev pub IsLineStage : Drawn → Stage → Type 0
IsLineStage drawn (stages.Event number) = number < drawn.net.events
IsLineStage drawn (stages.Bound current coming) = ⊥
IsLineStage drawn other = Unit {0}
