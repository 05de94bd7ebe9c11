-- What stands next after the bounds of a row in a right text.
use Rattle.std.proofs.Common.{◌≡◌, ℕ, ℤ, true, false, if◌then◌else◌, List, [], ◌∷◌, ◌++◌, codes, refl, sym, ap, subst, ◌∙◌}
use Rattle.std.specs.Prelude.{Result}
use Rattle.std.specs.Global.{Vec}
use Rattle.itv_base.specs.Range.{Ends}
use Rattle.itv_base.specs.declared.row_kind.RowKind.{RowKind}
use Rattle.itv_base.specs.declared.row_kind.RowKind.TheVariants as kinds
use Rattle.line_words.proofs.Plain.{join_line}
use Rattle.event_graph.specs.Network.{Net}
use Rattle.requirements.specs.Slacks.{slack_of}
use Rattle.requirements.specs.Verdicts.{verdict_of}
use Rattle.requirements.specs.declared.bound.Bound.{Bound}
use Rattle.requirements.specs.declared.verdict.Verdict.{Verdict}
use Rattle.requirements.specs.declared.verdict.Verdict.TheVariants.{FailHigh, FailLow, Pass, Undecided}
use Rattle.right_report.specs.Right.LineClaims.{BreaksEnd}
use Rattle.right_report.specs.Right.ReportState.{is_fail}
use Rattle.slack_report.specs.Entry as line
use Rattle.slack_report.specs.Text.{entry_text, words_of}
use Rattle.drawn_networks.specs.declared.row.Row.{Row}
use Rattle.job_settle.specs.declared.bound.SettledBound.{SettledBound}
use Rattle.job_settle.specs.declared.row.RowFound.{RowFound}
use Rattle.job_settle.specs.Answers.{ArePrintedTimes, IsPastOf, IsViolation, bound_of, verdict_in}
use Rattle.job_settle.specs.Text.{judged_text}
use Rattle.job_confirm.specs.declared.check_stop.CheckStop.{CheckStop}
use Rattle.job_confirm.specs.Step.{Begins, Gives, IsSameBound}
use Rattle.job_confirm.proofs.Same.{bound_of_same}
use Rattle.job_confirm.proofs.Whole.{three_parts}

-- a row that only asks has no times
pub asked_none : (net : Net) (row : Row) (kind : RowKind) (shown : RowFound) → kind ≡ kinds.Ask → IsPastOf net row kind shown → shown.past.items ≡ []
asked_none net row kind shown is past = subst (λ (k : RowKind). IsPastOf net row k shown) is past

-- the verdict that is shown is the verdict of the bounds that were read
verdict_same : (range : Ends) (shown : RowFound) (least greatest : SettledBound) (low high : Bound) (word : Verdict) → low ≡ bound_of least → high ≡ bound_of greatest
    → word ≡ verdict_of range low high → IsSameBound shown.greatest greatest → IsSameBound shown.least least → verdict_in range shown ≡ word
verdict_same range shown least greatest low high word is_low is_high is_word same_greatest same_least =
    ap (λ bound. verdict_of range bound (bound_of shown.greatest)) (bound_of_same shown.least least same_least ∙ sym is_low)
    ∙ (ap (λ bound. verdict_of range low bound) (bound_of_same shown.greatest greatest same_greatest ∙ sym is_high) ∙ sym is_word)

-- the times after the verdict of a requirement are read
pub judged_past : (net : Net) (row : Row) (kind : RowKind) (range : Ends) (least greatest : SettledBound) (low high : Bound) (word : Verdict) (rest : List ℕ) (r : Result (Vec ℤ) CheckStop)
    → kind ≡ kinds.Req range → low ≡ bound_of least → high ≡ bound_of greatest → word ≡ verdict_of range low high
    → ((past : List ℤ) (more : List ℕ) → IsViolation net row range word past
    → rest ≡ entry_text (line.verdict word) ++ ((if is_fail word then entry_text (line.times past) else []) ++ more) → Gives (λ found. found.items ≡ past) r)
    → (shown : RowFound) (more : List ℕ) → IsPastOf net row kind shown → IsSameBound shown.greatest greatest → IsSameBound shown.least least
    → rest ≡ judged_text kind shown ++ more → Gives (λ found. found.items ≡ shown.past.items) r
judged_past net row kind range least greatest low high word rest r is_kind is_low is_high is_word read shown more past same_greatest same_least stands =
    let same : verdict_in range shown ≡ word = verdict_same range shown least greatest low high word is_low is_high is_word same_greatest same_least in
    let behind : List ℕ = entry_text (line.slack (slack_of range (bound_of shown.least) (bound_of shown.greatest))) in
    let here : IsPastOf net row (kinds.Req range) shown = subst (λ (k : RowKind). IsPastOf net row k shown) is_kind past in
    let next : rest ≡ judged_text (kinds.Req range) shown ++ more = subst (λ (k : RowKind). rest ≡ judged_text k shown ++ more) is_kind stands in
    let parts = next ∙ three_parts (entry_text (line.verdict (verdict_in range shown))) (if is_fail (verdict_in range shown) then entry_text (line.times shown.past.items) else []) behind more in
    read shown.past.items (behind ++ more) (subst (λ (w : Verdict). IsViolation net row range w shown.past.items) same here)
    (subst (λ (w : Verdict). rest ≡ entry_text (line.verdict w) ++ ((if is_fail w then entry_text (line.times shown.past.items) else []) ++ (behind ++ more))) same parts)

-- ---- the times after a fail

-- after a verdict that is no fail there are no times
pub no_fail : (net : Net) (row : Row) (range : Ends) (word : Verdict) (past : List ℤ) → is_fail word ≡ false → IsViolation net row range word past → past ≡ []
no_fail net row range FailHigh past plain is = absurd (cc plain)
no_fail net row range FailLow past plain is = absurd (cc plain)
no_fail net row range Pass past plain is = is
no_fail net row range Undecided past plain is = is

-- the line of a fail stands next, and times that break the end stand after it
pub record IsBroken (net : Net) (row : Row) (range : Ends) (word : Verdict) (key : List ℕ) (past : List ℤ) (rest more : List ℕ) : Type 0 where
  pub begins : Begins rest key (entry_text (line.times past) ++ more)
  pub printed : ArePrintedTimes net row.from past
  pub breaks : BreaksEnd row range word past

pub broken_stands : (net : Net) (row : Row) (range : Ends) (word : Verdict) (key : List ℕ) (past : List ℤ) (rest more : List ℕ) → is_fail word ≡ true
    → (word ≡ FailLow → key ≡ codes "verdict fail low") → (word ≡ FailHigh → key ≡ codes "verdict fail high") → IsViolation net row range word past
    → rest ≡ entry_text (line.verdict word) ++ ((if is_fail word then entry_text (line.times past) else []) ++ more) → IsBroken net row range word key past rest more
unfolding words_of
broken_stands net row range FailHigh key past rest more fails low high is stands = record {
  begins = subst (λ (k : List ℕ). Begins rest k (entry_text (line.times past) ++ more)) (sym (high refl))
      (record { is_line = join_line (codes "verdict" ∷ codes "fail" ∷ codes "high" ∷ []) (refl, (refl, (refl, tt))); text_is = stands });
  printed = is.0;
  breaks = is.1;
}
broken_stands net row range FailLow key past rest more fails low high is stands = record {
  begins = subst (λ (k : List ℕ). Begins rest k (entry_text (line.times past) ++ more)) (sym (low refl))
      (record { is_line = join_line (codes "verdict" ∷ codes "fail" ∷ codes "low" ∷ []) (refl, (refl, (refl, tt))); text_is = stands });
  printed = is.0;
  breaks = is.1;
}
broken_stands net row range Pass key past rest more fails low high is stands = absurd (cc fails)
broken_stands net row range Undecided key past rest more fails low high is stands = absurd (cc fails)
