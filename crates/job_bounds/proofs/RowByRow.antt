-- The rows one after another.
use Rattle.std.proofs.Common.{◌≡◌, ◌≤◌, ◌+◌, ℕ, zero, suc, List, [], ◌∷◌, length, drop, Option, Some, None, refl, sym, subst, ap, ◌⊎◌, inl, inr, arith}
use Rattle.itv_base.specs.Outside.{SinkState}
use Rattle.requirements.specs.declared.verdict.Verdict.{Verdict}
use Rattle.requirements.specs.declared.consistency.Consistency.{Consistency}
use Rattle.requirements.specs.declared.consistency.Consistency.TheVariants as findings
use Rattle.right_report.specs.Right.ReportState.{at_end, at_row, at_rows, tally_of, end_word, with_bounds}
use Rattle.right_report.specs.declared.tally.ReportTally.{ReportTally}
use Rattle.drawn_networks.specs.Drawn.{Drawn}
use Rattle.right_report.specs.Right.Following.{LineClaims}
use Rattle.drawn_networks.specs.declared.row.Row.{Row}
use Rattle.job_bounds.specs.declared.desk.Desk.{Desk}
use Rattle.job_bounds.specs.declared.tally.RowEnd.{RowEnd}
use Rattle.job_bounds.specs.declared.tally.Tally.{Tally}
use Rattle.job_bounds.specs.Step.Ready.{IsReady, IsTally, behind_known, behind_rows, tally_after, tally_with}
use Rattle.job_bounds.specs.Step.Writing.{WroteVerdicts}

-- some rows are written
pub record RowsTold (claims : LineClaims) (drawn : Drawn) (found : Consistency) (rows : List Row) (number : ℕ) (tally : Tally) (first desk : Desk) (old new : SinkState) : Type 0 where
  pub ready : IsReady drawn.net found desk
  pub known : desk.work.known ≡ first.work.known
  pub words : List Verdict
  pub counted : IsTally tally words
  pub finding : tally.report.found ≡ found
  pub lines : WroteVerdicts claims drawn (at_rows found) (at_row tally.report number (drop number rows)) words old new
  pub most : (tally.passes + tally.fails + tally.undecided) ≤ number

-- a row leaves the finding as it is
with_keeps : (report_tally : ReportTally) (word : Option Verdict) → (tally_with report_tally word).found ≡ report_tally.found
with_keeps report_tally None = refl
with_keeps report_tally (Some word) = refl

pub after_keeps : (report_tally : ReportTally) (end : RowEnd) → (tally_after report_tally end).found ≡ report_tally.found
after_keeps report_tally end = with_keeps (with_bounds report_tally end.both.least end.both.greatest) end.verdict

-- no row is left
pub rows_none : (rows : List Row) (number : ℕ) → length rows ≤ number → drop number rows ≡ []
rows_none [] zero h = refl
rows_none [] (suc number) h = refl
rows_none (row ∷ rows) zero h = absurd (omega arith)
rows_none (row ∷ rows) (suc number) h = rows_none rows number (omega arith)

-- after an inconsistent finding there are no rows
pub rows_skipped : (word : Consistency) (tally : Tally) (count : ℕ) → word ≡ findings.Inconsistent → tally.report ≡ tally_of word → behind_known word ≡ behind_rows word tally count
rows_skipped word tally count e h =
    subst (λ (w : Consistency). behind_known w ≡ behind_rows w tally count) (sym e) (ap (λ (report_tally : ReportTally). at_end (end_word report_tally)) (sym (subst (λ (w : Consistency). tally.report ≡ tally_of w) e h)))

-- after any other finding the rows begin
pub rows_begin : (word : Consistency) → (word ≡ findings.Consistent) ⊎ (word ≡ findings.Open) → at_rows word ≡ behind_known word
rows_begin word (inl e) = rw e refl
rows_begin word (inr e) = rw e refl

pub rows_end : (word : Consistency) (tally : Tally) (count : ℕ) → (word ≡ findings.Consistent) ⊎ (word ≡ findings.Open)
    → at_row tally.report count [] ≡ behind_rows word tally count
rows_end word tally count (inl e) = rw e refl
rows_end word tally count (inr e) = rw e refl
