-- Texts of right reports, texts that a check accepts, and the line at which a check refuses a text.
use Rattle.std.specs.Prelude.{◌≡◌, ◌⊎◌, ◌+◌, ℕ, List}
use Rattle.slack_report.specs.Entry.{Entry}
use Rattle.slack_report.specs.Order.{IsReport}
use Rattle.slack_report.specs.Report.{IsFirstWrongLine}
use Rattle.slack_report.specs.Text.{report_text}
use Rattle.drawn_networks.specs.Drawn.{Drawn}
use Rattle.right_report.specs.Right.LineClaims.{IsRightReport}
use Rattle.right_report.specs.Checked.{IsChecked}
use Rattle.right_report.specs.Wrong.{IsFirstWrongIn}

-- the bytes are the text of a right report
pub record IsRightText (drawn : Drawn) (bytes : List ℕ) : Type 0 where
  pub lines : List Entry
  pub report : IsReport lines
  pub text : bytes ≡ report_text lines
  pub is_right : IsRightReport drawn lines

-- the bytes are the text of a report in which each line meets the check
pub record IsAcceptedText (drawn : Drawn) (bytes : List ℕ) : Type 0 where
  pub lines : List Entry
  pub report : IsReport lines
  pub text : bytes ≡ report_text lines
  pub is_checked : IsChecked drawn lines

-- the bytes are the text of a report, and this line of it, counted from 1, is the first that the check calls wrong
pub record HasFirstWrong (drawn : Drawn) (bytes : List ℕ) (line : ℕ) : Type 0 where
  pub lines : List Entry
  pub report : IsReport lines
  pub text : bytes ≡ report_text lines
  pub number : ℕ
  pub is_line : line ≡ number + 1
  pub is_wrong : IsFirstWrongIn drawn lines number

-- the check refuses the bytes at this line, counted from 1: no report's text continues there, or it is the first wrong line of the report
abbrev pub IsRefusedText : Drawn → List ℕ → ℕ → Type 0
IsRefusedText drawn bytes line = IsFirstWrongLine bytes line ⊎ HasFirstWrong drawn bytes line
