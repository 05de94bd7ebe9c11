-- Texts that a check accepts or refuses.
use Rattle.std.proofs.Common.{◌≡◌, ◌+◌, ℕ, List, [], ◌∷◌, Ok, Err, inl, inr, refl, sym, ap, subst, ◌∙◌}
use Rattle.slack_report.specs.Entry.{Entry}
use Rattle.slack_report.specs.Order.{IsReport}
use Rattle.slack_report.specs.Reading.{Read, report_in}
use Rattle.slack_report.specs.Report.{IsFirstWrongLine}
use Rattle.slack_report.specs.Text.{report_text}
use Rattle.drawn_networks.specs.Drawn.{Drawn}
use Rattle.slack_report.proofs.Judging.{first_same, report_err, report_ok, texts_differ}
use Rattle.right_report.specs.Checked.{checked}
use Rattle.right_report.specs.Laws.{AcceptedTextIsNotRefused, AcceptedTextIsRight, OneRefusedLine, UnrefusedTextIsRight}
use Rattle.right_report.specs.Right.ReportState.{ReportState, at_heading, at_last}
use Rattle.right_report.specs.Right.Following.{LinesLead}
use Rattle.right_report.specs.Texts.{HasFirstWrong, IsRefusedText, IsRightText}
use Rattle.right_report.specs.Wrong.{IsFirstWrong, IsFirstWrongIn, IsWrong}
use Rattle.right_report.proofs.Checking.{checked_is_right}
use Rattle.right_report.proofs.FirstWrong.{checked_has_no_wrong, one_first_wrong}

pub accepted_text_is_right : AcceptedTextIsRight
accepted_text_is_right drawn bytes a = record {
  lines = a.lines;
  report = a.report;
  text = a.text;
  is_right = checked_is_right drawn a.lines a.is_checked;
}

-- the text of a report has no line at which no report can go on
no_text_fault : (bytes : List ℕ) (line : ℕ) (lines : List Entry) → IsReport lines → bytes ≡ report_text lines → IsFirstWrongLine bytes line → ⊥
no_text_fault bytes line lines report text wrong = wrong.none (record { entries = lines; report = report; text = text })

same_wrong : (drawn : Drawn) (bytes : List ℕ) (line other : ℕ) → HasFirstWrong drawn bytes line → HasFirstWrong drawn bytes other → line ≡ other
same_wrong drawn bytes line other a b =
    let same : a.lines ≡ b.lines = texts_differ a.lines b.lines a.report b.report (sym a.text ∙ b.text) in
    let number : a.number ≡ b.number = one_first_wrong drawn b.lines a.number b.number (subst (λ lines. IsFirstWrongIn drawn lines a.number) same a.is_wrong) b.is_wrong in
    a.is_line ∙ ap (λ n. n + 1) number ∙ sym b.is_line

pub one_refused_line : OneRefusedLine
one_refused_line drawn bytes line other (inl a) (inl b) = first_same bytes line other a b
one_refused_line drawn bytes line other (inl a) (inr b) = absurd (no_text_fault bytes line b.lines b.report b.text a)
one_refused_line drawn bytes line other (inr a) (inl b) = absurd (no_text_fault bytes other a.lines a.report a.text b)
one_refused_line drawn bytes line other (inr a) (inr b) = same_wrong drawn bytes line other a b

pub accepted_text_is_not_refused : AcceptedTextIsNotRefused
accepted_text_is_not_refused drawn bytes line a (inl wrong) = no_text_fault bytes line a.lines a.report a.text wrong
accepted_text_is_not_refused drawn bytes line a (inr wrong) =
    let same : wrong.lines ≡ a.lines = texts_differ wrong.lines a.lines wrong.report a.report (sym wrong.text ∙ a.text) in
    checked_has_no_wrong drawn a.lines wrong.number a.is_checked (subst (λ lines. IsFirstWrongIn drawn lines wrong.number) same wrong.is_wrong)

-- ---- a text without a wrong line

-- if none of the lines is the first wrong one, the lines can't fail to lead to the end of a report
unrefused_from : (drawn : Drawn) (lines : List Entry) (here : ReportState) → ((number : ℕ) → IsFirstWrong drawn here lines number → ⊥) → (LinesLead (checked drawn.net) drawn here lines at_last → ⊥) → ⊥
unrefused_from drawn [] here none bars = none 0 (bars, refl)
unrefused_from drawn (line ∷ lines) here none bars =
    let fine : IsWrong drawn here line lines → ⊥ = λ wrong. none 0 (inl (wrong, refl)) in
    fine (inl (λ next follows. unrefused_from drawn lines next
    (λ later wrong. none (later + 1) (inr (next, later, (follows, λ refused. fine (inr refused)), wrong, refl))) (λ reads. bars (next, follows, reads))))

unrefused_report : (drawn : Drawn) (bytes : List ℕ) (lines : List Entry) → IsReport lines → bytes ≡ report_text lines → ((line : ℕ) → IsRefusedText drawn bytes line → ⊥) → (IsRightText drawn bytes → ⊥) → ⊥
unrefused_report drawn bytes lines report text none bars =
    unrefused_from drawn lines at_heading
    (λ number wrong. none (number + 1) (inr (record { lines = lines; report = report; text = text; number = number; is_line = refl; is_wrong = wrong })))
    (λ reads. bars (accepted_text_is_right drawn bytes (record { lines = lines; report = report; text = text; is_checked = reads })))

pub unrefused_text_is_right : UnrefusedTextIsRight
unrefused_text_is_right drawn bytes none bars = by_reading (report_in bytes) refl
  where
    by_reading : (read : Read) → report_in bytes ≡ read → ⊥
    by_reading (Ok lines) e = let t = report_ok bytes lines e in unrefused_report drawn bytes lines t.0 t.1 none bars
    by_reading (Err before) e = none (before + 1) (inl (report_err bytes before e))
