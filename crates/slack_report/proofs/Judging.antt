-- What reading a text gives: a report, or the first line at which no report can go on.
use Rattle.std.proofs.Common.{◌≡◌, ◌+◌, ◌≤◌, ℕ, zero, suc, List, [], ◌∷◌, ◌++◌, length, take, Result, Ok, Err, refl, sym, ap, subst, ◌∙◌, arith, inl, inr, append_assoc, add-one}
use Rattle.std.specs.List.{flat_map, slice_split}
use Rattle.std.proofs.lemmas.Bool.{cases_order}
use Rattle.std.proofs.lemmas.List.Concat.{flat_map-append}
use Rattle.std.proofs.lemmas.List.Splits.{join_with_byte-slice_split, length-slice_split}
use Rattle.line_words.specs.Lines.{ended, is_feed}
use Rattle.line_words.proofs.Cutting.{parts_are_lines}
use Rattle.slack_report.specs.declared.place.Place.{Place}
use Rattle.slack_report.specs.declared.place.Place.TheVariants as at
use Rattle.slack_report.specs.declared.fault.ReportFault.{ReportFault}
use Rattle.slack_report.specs.declared.fault.ReportFault.TheVariants as faults
use Rattle.std.specs.Prelude.{IfOk, IsErrOf}
use Rattle.slack_report.specs.Answer.{IsLineFault, IsRead}
use Rattle.slack_report.specs.Step.Answer.{IsAnswer}
use Rattle.slack_report.specs.Entry.{Entry}
use Rattle.slack_report.specs.Order.{BeginsReport, IsReport, OrderLeads}
use Rattle.slack_report.specs.Reading.{Read, report_in}
use Rattle.slack_report.specs.Report.{BeginsReportText, IsFirstWrongLine, first_lines, line_count}
use Rattle.slack_report.specs.Text.{entry_text, report_text}
use Rattle.slack_report.proofs.Finishing.{finish}
use Rattle.slack_report.proofs.PlainLines.{line_laws}
use Rattle.slack_report.proofs.Walking.{lines_again, lines_err, lines_ok, split_some}

pub report_text-append : (es more : List Entry) → report_text (es ++ more) ≡ report_text es ++ report_text more
report_text-append es more = flat_map-append entry_text es more

pub leads-append : (es more : List Entry) (place behind last : Place) → OrderLeads place es behind → OrderLeads behind more last → OrderLeads place (es ++ more) last
leads-append [] more place behind last p q = subst (λ x. OrderLeads x more last) (sym p) q
leads-append (entry ∷ es) more place behind last p q = (p.0, p.1, leads-append es more p.0 behind last p.2 q)

-- the text of lines that begin a report begins a report's text
pub begins_by : (bytes : List ℕ) (es : List Entry) (behind : Place) → OrderLeads at.Heading es behind → bytes ≡ report_text es → BeginsReportText bytes
begins_by bytes es behind leads text =
    let rest = finish behind in record {
      more = report_text rest.entries;
      whole = record {
        entries = es ++ rest.entries;
        report = leads-append es rest.entries at.Heading behind at.Nothing leads rest.leads;
        text = ap (λ x. x ++ report_text rest.entries) text ∙ sym (report_text-append es rest.entries);
      };
    }

-- fewer first lines of a text are a front of more first lines
flat_take : (parts : List (List ℕ)) (n m : ℕ) → n ≤ m → (more : List ℕ) × (flat_map ended (take m parts) ≡ flat_map ended (take n parts) ++ more)
flat_take parts zero m h = (flat_map ended (take m parts), refl)
flat_take parts (suc n) zero h = absurd (omega arith)
flat_take [] (suc n) (suc m) h = ([], refl)
flat_take (part ∷ parts) (suc n) (suc m) h =
    let rest = flat_take parts n m (omega arith) in
    (rest.0, ap (λ x. ended part ++ x) rest.1 ∙ sym (append_assoc (ended part) (flat_map ended (take n parts)) rest.0))

begins_fewer : (bytes : List ℕ) (n m : ℕ) → n ≤ m → BeginsReportText (first_lines m bytes) → BeginsReportText (first_lines n bytes)
begins_fewer bytes n m h begins =
    let t = flat_take (slice_split is_feed bytes) n m h in record {
      more = t.0 ++ begins.more;
      whole = record {
        entries = begins.whole.entries;
        report = begins.whole.report;
        text = sym (append_assoc (first_lines n bytes) t.0 begins.more) ∙ ap (λ x. x ++ begins.more) (sym t.1) ∙ begins.whole.text;
      };
    }

-- ---- reading

pub report_ok : (bytes : List ℕ) (es : List Entry) → report_in bytes ≡ Ok es → IsReport es × (bytes ≡ report_text es)
report_ok bytes es e =
    let l = lines_ok line_laws (slice_split is_feed bytes) at.Heading es e in
    (l.0, sym (join_with_byte-slice_split 10 bytes) ∙ l.1)

pub report_again : (es : List Entry) → IsReport es → report_in (report_text es) ≡ Ok es
report_again es report = lines_again line_laws es at.Heading report

pub text_again : (bytes : List ℕ) (es : List Entry) → IsReport es → bytes ≡ report_text es → report_in bytes ≡ Ok es
text_again bytes es report text = ap report_in text ∙ report_again es report

ok_err : {A B : Type 0} (x : A) (y : B) → ◌≡◌ {A = Result A B} (Ok x) (Err y) → ⊥
ok_err x y e = cc

same_ok : {A B : Type 0} (x y : A) → ◌≡◌ {A = Result A B} (Ok x) (Ok y) → x ≡ y
same_ok x y e = cc

same_err : {A B : Type 0} (x y : B) → ◌≡◌ {A = Result A B} (Err x) (Err y) → x ≡ y
same_err x y e = cc

-- different reports have different texts
pub texts_differ : (es more : List Entry) → IsReport es → IsReport more → report_text es ≡ report_text more → es ≡ more
texts_differ es more p q e = same_ok es more (sym (report_again es p) ∙ text_again (report_text es) more q e)

pub report_err : (bytes : List ℕ) (before : ℕ) → report_in bytes ≡ Err before → IsFirstWrongLine bytes (before + 1)
report_err bytes before e =
    let parts = slice_split is_feed bytes in
    let w = lines_err line_laws parts at.Heading before (split_some bytes) (parts_are_lines bytes) e in
    let count : length parts ≡ line_count bytes + 1 = length-slice_split is_feed bytes in
    let there : suc before ≤ length parts = w.is_there in record {
      before = before;
      number = refl;
      is_there = omega arith;
      begins = begins_by (first_lines before bytes) w.entries w.behind w.leads w.text;
      wrong = λ h begins. w.wrong (omega arith) begins.whole.entries begins.whole.report begins.more (subst (λ n. first_lines n bytes ++ begins.more ≡ report_text begins.whole.entries) (add-one before) begins.whole.text);
      none = λ text. ok_err text.entries before (sym (text_again bytes text.entries text.report text.text) ∙ e);
    }

-- there is at most one first wrong line
pub first_same : (bytes : List ℕ) (line other : ℕ) → IsFirstWrongLine bytes line → IsFirstWrongLine bytes other → line ≡ other
first_same bytes line other a b =
    elim (cases_order a.before b.before) [
      | inl same ↦ a.number ∙ ap (λ n. n + 1) same ∙ sym b.number
      | inr apart ↦ elim apart [
        | inl less ↦ (let there = b.is_there in absurd (a.wrong (omega arith) (begins_fewer bytes (a.before + 1) b.before (omega arith) b.begins)))
        | inr more ↦ (let there = a.is_there in absurd (b.wrong (omega arith) (begins_fewer bytes (b.before + 1) a.before (omega arith) a.begins)))
      ]
    ]

pub report_err_again : (bytes : List ℕ) (line : ℕ) → IsFirstWrongLine bytes line → (before : ℕ) × (report_in bytes ≡ Err before) × (line ≡ before + 1)
report_err_again bytes line wrong = at_read (report_in bytes) refl
  where
    at_read : (read : Read) → report_in bytes ≡ read → (before : ℕ) × (read ≡ Err before) × (line ≡ before + 1)
    at_read (Ok es) e = let t = report_ok bytes es e in absurd (wrong.none (record { entries = es; report = t.0; text = t.1 }))
    at_read (Err before) e = (before, refl, first_same bytes line (before + 1) wrong (report_err bytes before e))

-- ---- what is answered

pub tells_ok : (bytes : List ℕ) (r : Result (List Entry) ReportFault) → IsAnswer r (report_in bytes) → IfOk r (λ es. IsReport es × (bytes ≡ report_text es))
tells_ok bytes (Ok es) answer = report_ok bytes es answer
tells_ok bytes (Err fault) answer = tt

pub tells_only : (bytes : List ℕ) (r : Result (List Entry) ReportFault) → IsAnswer r (report_in bytes) → (es : List Entry) → IsReport es → bytes ≡ report_text es → IsRead r es
tells_only bytes (Ok found) answer es report text = same_ok found es (sym answer ∙ text_again bytes es report text)
tells_only bytes (Err (faults.Line line)) answer es report text = ok_err es answer.0 (sym (text_again bytes es report text) ∙ answer.1)
tells_only bytes (Err faults.NoMemory) answer es report text = tt

pub tells_line : (bytes : List ℕ) (r : Result (List Entry) ReportFault) → IsAnswer r (report_in bytes) → (line : ℕ) → IsErrOf r (faults.Line line) → IsFirstWrongLine bytes line
tells_line bytes (Ok found) answer line is = absurd (cc)
tells_line bytes (Err (faults.Line named)) answer line is =
    let same : named ≡ line = cc in
    subst (IsFirstWrongLine bytes) (sym answer.2 ∙ same) (report_err bytes answer.0 answer.1)
tells_line bytes (Err faults.NoMemory) answer line is = absurd (cc)

pub tells_wrong : (bytes : List ℕ) (r : Result (List Entry) ReportFault) → IsAnswer r (report_in bytes) → (line : ℕ) → IsFirstWrongLine bytes line → IsLineFault r line
tells_wrong bytes (Ok found) answer line wrong =
    let t = report_ok bytes found answer in wrong.none (record { entries = found; report = t.0; text = t.1 })
tells_wrong bytes (Err (faults.Line named)) answer line wrong =
    let t = report_err_again bytes line wrong in
    let same : answer.0 ≡ t.0 = same_err answer.0 t.0 (sym answer.1 ∙ t.1) in
    answer.2 ∙ ap (λ n. n + 1) same ∙ sym t.2
tells_wrong bytes (Err faults.NoMemory) answer line wrong = tt

pub begun_reports_can_end : (es : List Entry) → BeginsReport es → BeginsReportText (report_text es)
begun_reports_can_end es begins = begins_by (report_text es) es begins.0 begins.1 refl
