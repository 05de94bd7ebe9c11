-- What job bounds answers and writes.
use Rattle.std.specs.Prelude.{◌≡◌, ℕ, ℤ, Bool, true, false, List, length, count_by, All, IfSome, Some, slice_get}
use Rattle.requirements.specs.declared.verdict.Verdict.{Verdict}
use Rattle.requirements.specs.declared.verdict.Verdict.TheVariants as verdicts
use Rattle.slack_report.specs.Entry.{Entry, IsReportEntry, IsKind, IsName, budget, verdict}
use Rattle.slack_report.specs.Text.{report_text}
use Rattle.right_report.specs.Right.ReportState.{ReportState, at_heading, at_last, is_fail}
use Rattle.drawn_networks.specs.Drawn.{Drawn}
use Rattle.drawn_networks.specs.declared.row.Row.{Row}
use Rattle.right_report.specs.Right.Following.{LinesLead}
use Rattle.right_report.specs.Shown.{HasBudget}
use Rattle.right_report.specs.ReportContents.{end_in}
use Rattle.job_bounds.specs.Written.{written}
use Rattle.job_bounds.specs.declared.summary.Summary.{Summary}

-- ---- lines of verdicts

abbrev pub is_pass : Verdict → Bool
is_pass verdicts.Pass = true
is_pass verdicts.FailHigh = false
is_pass verdicts.FailLow = false
is_pass verdicts.Undecided = false

abbrev pub is_undecided : Verdict → Bool
is_undecided verdicts.Pass = false
is_undecided verdicts.FailHigh = false
is_undecided verdicts.FailLow = false
is_undecided verdicts.Undecided = true

-- the line is a verdict of a kind
abbrev pub is_verdict : (Verdict → Bool) → Entry → Bool
is_verdict is_kind (verdict word) = is_kind word
is_verdict is_kind line = false

-- how many lines are verdicts of a kind
abbrev pub verdict_count : (Verdict → Bool) → List Entry → ℕ
verdict_count is_kind lines = count_by (is_verdict is_kind) lines

-- ---- reports

-- the ranges of the requirements have their form
abbrev pub HasRowRanges : Drawn → Type 0
HasRowRanges drawn = All (λ (r : Row). IsKind r.kind) drawn.rows

-- a whole report with its budget and its known times, with the lines of proofs or without them; each line has a text if the names of the events and
-- the ranges of the rows have their form
pub record IsWrittenReport (drawn : Drawn) (most : ℕ) (cert : Bool) (lines : List Entry) : Type 0 where
  pub known : List ℤ
  pub reads : LinesLead (written drawn.net most cert known) drawn at_heading lines at_last
  pub has_budget : HasBudget most lines
  pub texts : All IsName drawn.names → HasRowRanges drawn → All (IsReportEntry (length drawn.names)) lines

-- what a summary says of the lines of a report
pub record Sums (summary : Summary) (lines : List Entry) : Type 0 where
  pub ends : end_in lines ≡ Some summary.end
  pub passes : summary.passes ≡ verdict_count is_pass lines
  pub fails : summary.fails ≡ verdict_count is_fail lines
  pub undecided : summary.undecided ≡ verdict_count is_undecided lines

-- what the job answers and writes: the text of a report, and the summary of its lines
pub record Reports (drawn : Drawn) (most : ℕ) (cert : Bool) (summary : Summary) (text : List ℕ) : Type 0 where
  pub lines : List Entry
  pub is_written : IsWrittenReport drawn most cert lines
  pub sums : Sums summary lines
  pub is_text : text ≡ report_text lines

-- what the job may have begun to write: the text of lines that begin such a report
pub record MayHaveBegun (drawn : Drawn) (most : ℕ) (cert : Bool) (text : List ℕ) : Type 0 where
  pub lines : List Entry
  pub last : ReportState
  pub known : List ℤ
  pub reads : LinesLead (written drawn.net most cert known) drawn at_heading lines last
  pub has_budget : IfSome (slice_get lines 1) (λ line. line ≡ budget most)
  pub is_text : text ≡ report_text lines
