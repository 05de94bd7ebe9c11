-- Steps of a walk over the lines of a report.
use Rattle.std.specs.Prelude.{◌≡◌, ◌<◌, ◌≤◌, ◌+◌, ℕ, List, drop, length, ⊤, Result, Ok, Err}
use Rattle.slack_report.specs.Entry.{Entry}
use Rattle.right_report.specs.Right.ReportState.{ReportState, at_last}
use Rattle.drawn_networks.specs.Drawn.{Drawn}
use Rattle.right_report.specs.Right.Following.{LinesLead}
use Rattle.right_report.specs.Checked.{IsChecked, checked}
use Rattle.right_report.specs.Wrong.{IsFirstWrong, IsFirstWrongIn}
use Rattle.job_check.specs.declared.check.Checked.{Checked}
use Rattle.job_check.specs.declared.check.Checked.TheVariants.{Accepted, Refused}
use Rattle.job_check.specs.declared.stage.Stage.{Stage}
use Rattle.job_check.specs.Step.Stages.{Fits, at_of}

-- the number, among all lines, of the first wrong line from `start` on, where the report is in the state `here`
abbrev pub IsWrongFrom : Drawn → List Entry → ReportState → ℕ → ℕ → Type 0
IsWrongFrom drawn lines here start number = (later : ℕ) × IsFirstWrong drawn here (drop start lines) later × (number ≡ start + later)

-- the lines from one number to another are fine, and lead from a state to another
pub record CheckLeads (drawn : Drawn) (lines : List Entry) (here : ReportState) (start : ℕ) (next : ReportState) (behind : ℕ) : Type 0 where
  pub reads : LinesLead (checked drawn.net) drawn next (drop behind lines) at_last → LinesLead (checked drawn.net) drawn here (drop start lines) at_last
  pub wrong : (number : ℕ) → IsWrongFrom drawn lines next behind number → IsWrongFrom drawn lines here start number

-- a step over some lines: the stage after them, or the first wrong line
pub record StepsOn (drawn : Drawn) (lines : List Entry) (here : ReportState) (start : ℕ) (stage : Stage) (behind : ℕ) : Type 0 where
  pub leads : CheckLeads drawn lines here start (at_of drawn stage) behind
  pub fits : Fits drawn stage
  pub more : start < behind
  pub within : behind ≤ length lines

abbrev pub CheckSteps : Drawn → List Entry → ReportState → ℕ → Result (Stage × ℕ) ℕ → Type 0
CheckSteps drawn lines here start (Ok next) = StepsOn drawn lines here start next.0 next.1
CheckSteps drawn lines here start (Err number) = IsWrongFrom drawn lines here start number

-- what a whole walk finds: each line is fine, or which is the first wrong one
abbrev pub CheckWalks : Drawn → List Entry → ReportState → Result ⊤ ℕ → Type 0
CheckWalks drawn lines here (Ok done) = LinesLead (checked drawn.net) drawn here lines at_last
CheckWalks drawn lines here (Err number) = IsFirstWrong drawn here lines number

-- what becomes of the lines of a report
abbrev pub ChecksItems : Drawn → List Entry → Checked → Type 0
ChecksItems drawn lines Accepted = IsChecked drawn lines
ChecksItems drawn lines (Refused line) = (number : ℕ) × (line ≡ number + 1) × IsFirstWrongIn drawn lines number
