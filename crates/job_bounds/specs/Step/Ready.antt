-- When all that the rows need is ready.
use Rattle.std.specs.Prelude.{◌≡◌, ℕ, ℤ, pos, All, List, [], Option, Some, None, IsSomeAnd, count_by}
use Rattle.branch.specs.Work.{IsMadeFor}
use Rattle.event_graph.specs.Limits.{IsPrintedTime}
use Rattle.event_graph.specs.Network.{Net}
use Rattle.event_graph.specs.RootBound.{MeetsAlways}
use Rattle.event_graph.specs.Satisfying.{Satisfies}
use Rattle.event_graph.specs.Times.{time_of}
use Rattle.requirements.specs.declared.verdict.Verdict.{Verdict}
use Rattle.slack_report.specs.declared.words.EndWord.TheVariants as endings
use Rattle.requirements.specs.declared.consistency.Consistency.{Consistency}
use Rattle.requirements.specs.declared.consistency.Consistency.TheVariants as findings
use Rattle.right_report.specs.Right.ReportState.{ReportState, at_end, at_row, at_rows, end_word, is_fail, with_bounds, with_verdict}
use Rattle.right_report.specs.declared.tally.ReportTally.{ReportTally}
use Rattle.job_bounds.specs.Reports.{is_pass, is_undecided}
use Rattle.job_bounds.specs.declared.desk.Desk.{Desk}
use Rattle.job_bounds.specs.declared.tally.RowEnd.{RowEnd}
use Rattle.job_bounds.specs.declared.tally.Tally.{Tally}
use Rattle.job_bounds.specs.Step.Witness.{IsRoomFor}

-- what a finding leaves: known times that satisfy, or, if it is unsettled, times that meet all always-edges
abbrev pub HasFound : Net → Consistency → Option (List ℤ) → Type 0
HasFound net findings.Consistent known = IsSomeAnd known (λ times. Satisfies times net)
HasFound net findings.Inconsistent known = Unit {0}
HasFound net findings.Open known = (list : List ℤ) × MeetsAlways list net

-- the memory is made for a network
pub record IsSet (net : Net) (desk : Desk) : Type 0 where
  pub made : IsMadeFor net desk.work
  pub greatest : IsRoomFor net desk.greatest
  pub least : IsRoomFor net desk.least

-- the memory is made for a network, and a finding is made
pub record IsReady (net : Net) (word : Consistency) (desk : Desk) : Type 0 where
  pub set : IsSet net desk
  pub found : HasFound net word desk.work.known

-- the tally after the verdict of a row, if it has one
abbrev pub tally_with : ReportTally → Option Verdict → ReportTally
tally_with report_tally None = report_tally
tally_with report_tally (Some word) = with_verdict report_tally word

-- the tally after a row
abbrev pub tally_after : ReportTally → RowEnd → ReportTally
tally_after report_tally end = tally_with (with_bounds report_tally end.both.least end.both.greatest) end.verdict

-- the counts of some verdicts
pub record IsTally (tally : Tally) (words : List Verdict) : Type 0 where
  pub passes : tally.passes ≡ count_by is_pass words
  pub fails : tally.fails ≡ count_by is_fail words
  pub undecided : tally.undecided ≡ count_by is_undecided words

-- times that may be printed after a consistent finding: they satisfy, and event 0 is at 0
abbrev pub AreKnown : Net → List ℤ → Type 0
AreKnown net list = All IsPrintedTime list × Satisfies list net × (time_of list (record { 0 = 0 }) ≡ pos 0)

-- the report state after a finding and the times that come with it
abbrev pub behind_known : Consistency → ReportState
behind_known findings.Consistent = at_rows findings.Consistent
behind_known findings.Inconsistent = at_end endings.Inconsistent
behind_known findings.Open = at_rows findings.Open

-- the report state after a finding and all rows; `count` is how many rows there are
abbrev pub behind_rows : Consistency → Tally → ℕ → ReportState
behind_rows findings.Consistent tally count = at_row tally.report count []
behind_rows findings.Inconsistent tally count = at_end (end_word tally.report)
behind_rows findings.Open tally count = at_row tally.report count []
