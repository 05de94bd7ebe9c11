-- The report that was written is the report that is read back.
use Rattle.std.proofs.Common.{◌≡◌, ℕ, false, List, All, Option, Some, Result, Ok, Err, ◌∙◌, sym, ap, subst}
use Rattle.slack_report.specs.Answer.{IsRead}
use Rattle.slack_report.specs.Entry.{Entry, IsName}
use Rattle.slack_report.specs.Order.{IsReport}
use Rattle.slack_report.specs.Text.{report_text}
use Rattle.slack_report.specs.declared.fault.ReportFault.{ReportFault}
use Rattle.slack_report.specs.declared.fault.ReportFault.TheVariants as faults
use Rattle.slack_report.specs.declared.words.EndWord.{EndWord}
use Rattle.drawn_networks.specs.Drawn.{Drawn}
use Rattle.right_report.specs.ReportContents.{end_in}
use Rattle.right_report.proofs.Ordering.{right_is_report}
use Rattle.right_report.proofs.Showing.{bare_is_right}
use Rattle.job_bounds.specs.Reports.{HasRowRanges, IsWrittenReport}
use Rattle.job_bounds.proofs.WrittenLaws.{written_is_bare}
use Rattle.job_redraw.specs.Step.{IsReportKept, IsTextOf}
use Rattle.job_redraw.specs.declared.search.KeptReport.{KeptReport}
use Rattle.job_redraw.specs.declared.search.Written.{Written}

written_is_report : (drawn : Drawn) (most : ℕ) (lines : List Entry) → IsWrittenReport drawn most false lines → All IsName drawn.names → HasRowRanges drawn → IsReport lines
written_is_report drawn most lines w names ranges =
    (right_is_report drawn lines (bare_is_right drawn most lines (written_is_bare drawn most lines w)) (w.texts names ranges)).0

same_text : (o : Option (List ℕ)) (text bytes : List ℕ) → o ≡ Some text → o ≡ Some bytes → bytes ≡ text
same_text o text bytes e f = cc (e, f)

module _ (drawn : Drawn) (most : ℕ) (found : Written) (bytes : List ℕ) (result : Result (List Entry) ReportFault) (is : IsTextOf drawn most found) (kept : found.tape.written ≡ Some bytes)
    (names : All IsName drawn.names) (ranges : HasRowRanges drawn) (only : (entries : List Entry) → IsReport entries → bytes ≡ report_text entries → IsRead result entries) where
  -- the lines that were written are read
  read_lines : IsRead result is.lines
  read_lines = only is.lines (written_is_report drawn most is.lines is.is_written names ranges) (same_text found.tape.written (report_text is.lines) bytes is.text kept)

  -- what is read is the report that was written
  pub read_back : (lines : List Entry) (end : EndWord) → result ≡ Ok lines → end ≡ found.end → IsWrittenReport drawn most false lines × (end_in lines ≡ Some end)
  read_back lines end ok same =
      let at : lines ≡ is.lines = subst (λ r. IsRead r is.lines) ok read_lines in
      (subst (IsWrittenReport drawn most false) (sym at) is.is_written, ap end_in at ∙ is.ends ∙ ap (λ w. Some w) (sym same))

  -- no line is a fault
  pub never_wrong : (line : ℕ) → result ≡ Err (faults.Line line) → ⊥
  never_wrong line err = subst (λ r. IsRead r is.lines) err read_lines
