-- The state of a right report between two lines, with what the lines to come have to agree with.
use Rattle.std.specs.Prelude.{ℕ, ◌+◌, ℤ, Bool, true, false, ◌||◌, if◌then◌else◌, List, [], Option, Some, None}
use Rattle.itv_base.specs.Names.{Name}
use Rattle.itv_base.specs.Range.{Ends}
use Rattle.event_graph.specs.Proof.{ProofLine}
use Rattle.requirements.specs.declared.bound.Bound.{Bound}
use Rattle.requirements.specs.declared.bound.Bound.TheVariants as bounds
use Rattle.requirements.specs.declared.verdict.Verdict.{Verdict}
use Rattle.requirements.specs.declared.verdict.Verdict.TheVariants as verdicts
use Rattle.itv_base.specs.declared.row_kind.RowKind.{RowKind}
use Rattle.itv_base.specs.declared.row_kind.RowKind.TheVariants as kinds
use Rattle.slack_report.specs.declared.words.EndWord.{EndWord}
use Rattle.slack_report.specs.declared.words.EndWord.TheVariants as endings
use Rattle.requirements.specs.declared.consistency.Consistency.{Consistency}
use Rattle.requirements.specs.declared.consistency.Consistency.TheVariants as findings
use Rattle.slack_report.specs.declared.words.Which.{Which}
use Rattle.slack_report.specs.declared.words.Which.TheVariants as sorts
use Rattle.drawn_networks.specs.declared.row.Row.{Row}
use Rattle.right_report.specs.declared.tally.ReportTally.{ReportTally}

-- the row whose lines come: the tally before it, its number, the row itself, and the later rows
pub record CurrentRow : Type 0 where
  pub tally : ReportTally
  pub number : ℕ
  pub row : Row
  pub later : List Row

-- which bound of the row comes next: the greatest, or the least after this greatest bound
pub data NextBound : Type 0 where
  greatest : NextBound
  least_by : Bound → NextBound

-- the state of a report between two lines
pub data ReportState : Type 0 where
  at_heading : ReportState
  at_budget : ReportState
  at_events : ReportState
  at_event : ℕ → List Name → ReportState
  at_finding : List ProofLine → ReportState
  at_known : ReportState
  at_rows : Consistency → ReportState
  at_row : ReportTally → ℕ → List Row → ReportState
  at_bound : CurrentRow → NextBound → List ProofLine → ReportState
  at_times : CurrentRow → NextBound → Bound → ReportState
  at_raise : CurrentRow → NextBound → List ℤ → ReportState
  at_verdict : CurrentRow → Ends → Bound → Bound → ReportState
  at_past : CurrentRow → Ends → Bound → Bound → ReportState
  at_slack : ReportTally → ℕ → List Row → Ends → Bound → Bound → ReportState
  at_end : EndWord → ReportState
  at_last : ReportState

-- ---- the states after lines

abbrev pub which_of : NextBound → Which
which_of greatest = sorts.Max
which_of (least_by most) = sorts.Min

abbrev pub is_within : Bound → Bool
is_within (bounds.Closed value) = false
is_within bounds.Unbounded = false
is_within (bounds.Within limit attained) = true

abbrev pub is_fail : Verdict → Bool
is_fail verdicts.Pass = false
is_fail verdicts.FailHigh = true
is_fail verdicts.FailLow = true
is_fail verdicts.Undecided = false

abbrev pub with_bounds : ReportTally → Bound → Bound → ReportTally
with_bounds tally least most = record tally { within = tally.within || (is_within least || is_within most) }

abbrev pub with_verdict : ReportTally → Verdict → ReportTally
with_verdict tally word = record tally { fails = tally.fails || is_fail word }

-- the state after both bounds of a row
abbrev pub judged : RowKind → CurrentRow → Bound → Bound → ReportState
judged kinds.Ask row least most = at_row (with_bounds row.tally least most) (row.number + 1) row.later
judged (kinds.Req range) row least most = at_verdict row range least most

-- the state after a bound and its lines
abbrev pub bounded : CurrentRow → NextBound → Bound → ReportState
bounded row greatest value = at_bound row (least_by value) []
bounded row (least_by most) value = judged row.row.kind row value most

-- the state after the line of a bound
abbrev pub behind_bound : CurrentRow → NextBound → Bound → ReportState
behind_bound row coming (bounds.Within limit None) = bounded row coming (bounds.Within limit None)
behind_bound row coming (bounds.Within limit (Some found)) = at_times row coming (bounds.Within limit (Some found))
behind_bound row coming (bounds.Closed value) = at_times row coming (bounds.Closed value)
behind_bound row coming bounds.Unbounded = at_times row coming bounds.Unbounded

-- the state after the times of a bound
abbrev pub behind_times : CurrentRow → NextBound → Bound → List ℤ → ReportState
behind_times row coming bounds.Unbounded list = at_raise row coming list
behind_times row coming (bounds.Closed value) list = bounded row coming (bounds.Closed value)
behind_times row coming (bounds.Within limit attained) list = bounded row coming (bounds.Within limit attained)

-- the state after a verdict and the times that break the requirement
abbrev pub behind_past : CurrentRow → Ends → Bound → Bound → Verdict → ReportState
behind_past row range least most word = at_slack (with_verdict (with_bounds row.tally least most) word) (row.number + 1) row.later range least most

-- the state after a verdict
abbrev pub behind_verdict : CurrentRow → Ends → Bound → Bound → Verdict → ReportState
behind_verdict row range least most word = if is_fail word then at_past row range least most else behind_past row range least most word

abbrev pub tally_of : Consistency → ReportTally
tally_of word = record { found = word; fails = false; within = false }

-- the state after a finding
abbrev pub behind_finding : Consistency → ReportState
behind_finding findings.Consistent = at_known
behind_finding findings.Inconsistent = at_end endings.Inconsistent
behind_finding findings.Open = at_rows findings.Open

-- the word at the end if no verdict was a fail
abbrev pub undecided_or_pass : Consistency → Bool → EndWord
undecided_or_pass findings.Consistent within = if within then endings.Undecided else endings.Pass
undecided_or_pass findings.Inconsistent within = endings.Inconsistent
undecided_or_pass findings.Open within = endings.Undecided

-- the word at the end
abbrev pub end_word : ReportTally → EndWord
end_word tally = if tally.fails then endings.Fail else undecided_or_pass tally.found tally.within
