-- Laws of the reports that the job writes.
use Rattle.std.specs.Prelude.{◌≡◌, ℕ, Bool, true, false, List, All}
use Rattle.slack_report.specs.Entry.{Entry, IsName}
use Rattle.slack_report.specs.Text.{report_text}
use Rattle.drawn_networks.specs.Drawn.{Drawn}
use Rattle.right_report.specs.Right.LineClaims.{BeginsRightReport}
use Rattle.right_report.specs.Checked.{IsChecked}
use Rattle.right_report.specs.Shown.{IsBareReport, IsShownReport}
use Rattle.right_report.specs.Texts.{IsAcceptedText}
use Rattle.job_bounds.specs.Reports.{MayHaveBegun, HasRowRanges, IsWrittenReport}

-- a report with the lines of proofs shows its numbers
abbrev pub WrittenIsShown : Type 0
WrittenIsShown = (drawn : Drawn) (most : ℕ) (lines : List Entry) → IsWrittenReport drawn most true lines → IsShownReport drawn most lines

-- a report without the lines of proofs is right, and such lines exist for its numbers
abbrev pub WrittenIsBare : Type 0
WrittenIsBare = (drawn : Drawn) (most : ℕ) (lines : List Entry) → IsWrittenReport drawn most false lines → IsBareReport drawn most lines

-- in a report with the lines of proofs, each line meets the check
abbrev pub WrittenIsChecked : Type 0
WrittenIsChecked = (drawn : Drawn) (most : ℕ) (lines : List Entry) → IsWrittenReport drawn most true lines → IsChecked drawn lines

-- the check accepts the text of a report with the lines of proofs, if the names of the events and the ranges of the rows have their form
abbrev pub WrittenIsAccepted : Type 0
WrittenIsAccepted = (drawn : Drawn) (most : ℕ) (lines : List Entry) → IsWrittenReport drawn most true lines → All IsName drawn.names → HasRowRanges drawn
    → IsAcceptedText drawn (report_text lines)

-- what the job may have begun to write is the text of lines; the lines begin a right report, with the lines of proofs or without them
abbrev pub BegunIsRight : Type 0
BegunIsRight = (drawn : Drawn) (most : ℕ) (cert : Bool) (text : List ℕ) → MayHaveBegun drawn most cert text
    → (lines : List Entry) × BeginsRightReport drawn lines × (text ≡ report_text lines)
