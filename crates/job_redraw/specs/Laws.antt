-- What a report with a fail at its end says.
use Rattle.std.specs.Prelude.{◌≡◌, ℕ, false, List, Some}
use Rattle.slack_report.specs.declared.words.EndWord.TheVariants.{Fail}
use Rattle.slack_report.specs.Entry.{Entry}
use Rattle.drawn_networks.specs.Drawn.{Drawn}
use Rattle.right_report.specs.ReportContents.{end_in}
use Rattle.job_bounds.specs.Reports.{IsWrittenReport}
use Rattle.job_redraw.specs.Failed.{Failed, IsBroken, first_failed}

-- a report that ends with a fail has a first failed row, with times that break its requirement
abbrev pub FailIsShown : Type 0
FailIsShown = (drawn : Drawn) (most : ℕ) (lines : List Entry) → IsWrittenReport drawn most false lines → end_in lines ≡ Some Fail
    → (failed : Failed) × (first_failed lines ≡ Some failed) × IsBroken drawn failed
