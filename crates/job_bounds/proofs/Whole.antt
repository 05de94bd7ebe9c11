-- A whole report, and one that a put cut short.
use Rattle.std.proofs.Common.{◌≡◌, ◌+◌, ℕ, ℤ, Bool, cond, List, [], ◌∷◌, ◌++◌, length, Some, None, Result, Ok, Err, count_by, refl, sym, subst, ap, ◌∙◌, add-zero, append-nil, arith}
use Rattle.std.specs.Prelude.{All, ⊤}
use Rattle.std.proofs.lemmas.List.Sums.{sum_by-cons}
use Rattle.itv_base.specs.Names.{Name}
use Rattle.itv_base.specs.Outside.{CutShort, Puts, SinkState, grown}
use Rattle.itv_base.proofs.Written.{cut_then, grown-append}
use Rattle.event_graph.specs.Network.{Net}
use Rattle.requirements.specs.declared.verdict.Verdict.{Verdict}
use Rattle.slack_report.specs.declared.words.EndWord.{EndWord}
use Rattle.requirements.specs.declared.consistency.Consistency.{Consistency}
use Rattle.requirements.specs.declared.consistency.Consistency.TheVariants as findings
use Rattle.slack_report.specs.Entry.{Entry, IsReportEntry, IsName, heading, budget, events, event, proof, finding, times, rows, row, bound, raise, verdict, slack, ending}
use Rattle.slack_report.specs.Text.{entry_text, report_text}
use Rattle.right_report.specs.Right.ReportState.{ReportState, at_budget, at_event, at_events, at_heading, at_last, end_word, is_fail}
use Rattle.drawn_networks.specs.Drawn.{Drawn}
use Rattle.job_base.specs.Events.{event_lines, events_from}
use Rattle.right_report.specs.Right.Following.{LineClaims, Implies, MayFollow, LinesLead}
use Rattle.slack_report.proofs.Judging.{report_text-append}
use Rattle.right_report.proofs.RightOrder.{reads-append, reads_weaker}
use Rattle.right_report.specs.ReportContents.{end_in}
use Rattle.right_report.specs.Writing.{WroteFront}
use Rattle.job_bounds.specs.Reports.{MayHaveBegun, HasRowRanges, Reports, is_pass, is_undecided, is_verdict, verdict_count}
use Rattle.job_bounds.specs.Written.{written}
use Rattle.job_bounds.specs.declared.summary.Summary.{Summary}
use Rattle.job_bounds.specs.declared.tally.Tally.{Tally}
use Rattle.job_bounds.specs.Step.Ready.{IsTally, behind_rows}
use Rattle.job_bounds.specs.Step.Searched.{sized}
use Rattle.job_bounds.specs.Step.Writing.{WritesVerdicts, WroteVerdicts, verdicts_in}
use Rattle.job_bounds.proofs.WriterSteps.{end_in-append, verdicts-append}

-- ---- counts

pub counts : (is_kind : Verdict → Bool) (lines : List Entry) → verdict_count is_kind lines ≡ count_by is_kind (verdicts_in lines)
counts is_kind [] = refl
counts is_kind (heading ∷ a) = counts is_kind a
counts is_kind (budget n ∷ a) = counts is_kind a
counts is_kind (events n ∷ a) = counts is_kind a
counts is_kind (event n name ∷ a) = counts is_kind a
counts is_kind (proof line ∷ a) = counts is_kind a
counts is_kind (finding word ∷ a) = counts is_kind a
counts is_kind (times list ∷ a) = counts is_kind a
counts is_kind (rows n ∷ a) = counts is_kind a
counts is_kind (row n kind from to ∷ a) = counts is_kind a
counts is_kind (bound which value ∷ a) = counts is_kind a
counts is_kind (raise set ∷ a) = counts is_kind a
counts is_kind (verdict word ∷ a) =
    sum_by-cons (λ (line : Entry). cond (is_verdict is_kind line) 1 0) (verdict word) a ∙ ap (λ n. cond (is_kind word) 1 0 + n) (counts is_kind a)
    ∙ sym (sum_by-cons (λ (w : Verdict). cond (is_kind w) 1 0) word (verdicts_in a))
counts is_kind (slack value ∷ a) = counts is_kind a
counts is_kind (ending word ∷ a) = counts is_kind a

-- ---- the line claims

sized_implies : (net : Net) (most : ℕ) (cert : Bool) (basis : List ℤ) → Implies (sized net most cert basis) (written net most cert basis)
sized_implies net most cert basis = record {
  finding = λ lines word h. h;
  known = λ list h. h;
  bound = λ found r coming lines value h. h.0;
  times = λ r value list h. h;
  raise = λ r coming list set h. h;
  past = λ r range word list h. h;
}

-- ---- the front

abbrev front : ℕ → List Entry
front most = heading ∷ budget most ∷ []

-- lines after the front
front_reads : (drawn : Drawn) (most : ℕ) (cert : Bool) (basis : List ℤ) (lines : List Entry) (last : ReportState) → LinesLead (sized drawn.net most cert basis) drawn at_events lines last
    → LinesLead (written drawn.net most cert basis) drawn at_heading (heading ∷ budget most ∷ lines) last
front_reads drawn most cert basis lines last reads =
    (at_budget, (refl, refl), (at_events, (most, refl, refl), reads_weaker (sized drawn.net most cert basis) (written drawn.net most cert basis) drawn lines at_events last (sized_implies drawn.net most cert basis) reads))

abbrev Begins : Drawn → ℕ → Bool → SinkState → SinkState → Type 0
Begins drawn most cert old new = (text : List ℕ) × MayHaveBegun drawn most cert text × CutShort old new text

-- a put of the front was cut short
pub begins_front : (drawn : Drawn) (most : ℕ) (cert : Bool) (old new : SinkState) → CutShort old new (report_text (front most)) → Begins drawn most cert old new
begins_front drawn most cert old new cut = (report_text (front most), record { lines = front most; last = at_events; known = []; reads = front_reads drawn most cert [] [] at_events refl; has_budget = refl; is_text = refl }, cut)

-- a later put was cut short
pub begins_rest : (drawn : Drawn) (most : ℕ) (cert : Bool) (basis : List ℤ) (old now new : SinkState) → now ≡ grown old (report_text (front most)) → WroteFront (sized drawn.net most cert basis) drawn at_events now new
    → Begins drawn most cert old new
begins_rest drawn most cert basis old now new put s = (
  report_text (front most ++ s.lines),
  record { lines = front most ++ s.lines; last = s.last; known = basis; reads = front_reads drawn most cert basis s.lines s.last s.reads; has_budget = refl; is_text = refl },
  subst (CutShort old new) (sym (report_text-append (front most) s.lines)) (cut_then old now new (report_text (front most)) (report_text s.lines) put s.cut),
)

-- ---- the end

pub end_may : (claims : LineClaims) (drawn : Drawn) (found : Consistency) (tally : Tally) (count : ℕ) (word : EndWord) → word ≡ end_word tally.report
    → MayFollow claims drawn (behind_rows found tally count) (ending word) at_last
end_may claims drawn findings.Consistent tally count word e = (ap ending e, refl)
end_may claims drawn findings.Inconsistent tally count word e = (ap ending e, refl)
end_may claims drawn findings.Open tally count word e = (ap ending e, refl)

-- the summary of a word and of counts
abbrev summary_by : EndWord → Tally → Summary
summary_by word tally = record { end = word; passes = tally.passes; fails = tally.fails; undecided = tally.undecided }

module _ (drawn : Drawn) (most : ℕ) (cert : Bool) (basis : List ℤ) (old now mid new : SinkState) (found : Consistency) (tally : Tally) (count : ℕ) (words : List Verdict) (word : EndWord)
    (put : now ≡ grown old (report_text (front most))) (t : WroteVerdicts (sized drawn.net most cert basis) drawn at_events (behind_rows found tally count) words now mid)
    (end : new ≡ grown mid (entry_text (ending word))) (word_is : word ≡ end_word tally.report) (counted : IsTally tally words)
    (entries : (lines : List Entry) → LinesLead (sized drawn.net most cert basis) drawn at_events lines at_last → All IsName drawn.names → HasRowRanges drawn → All (IsReportEntry (length drawn.names)) (front most ++ lines)) where
  rest : List Entry
  rest = t.lines ++ ending word ∷ []

  rest_reads : LinesLead (sized drawn.net most cert basis) drawn at_events rest at_last
  unfolding rest
  rest_reads = reads-append (sized drawn.net most cert basis) drawn t.lines (ending word ∷ []) at_events (behind_rows found tally count) at_last t.reads
      (at_last, end_may (sized drawn.net most cert basis) drawn found tally count word word_is, refl)

  words_in : verdicts_in rest ≡ words
  unfolding rest
  words_in = verdicts-append t.lines (ending word ∷ []) ∙ append-nil (verdicts_in t.lines) ∙ t.words_are

  end_is : end_in rest ≡ Some word
  unfolding rest
  end_is = end_in-append t.lines (ending word ∷ []) t.no_end

  rest_text : new ≡ grown now (report_text rest)
  unfolding rest
  rest_text = end ∙ ap (λ current. grown current (entry_text (ending word))) t.grew ∙ grown-append now (report_text t.lines) (entry_text (ending word))
      ∙ ap (grown now) (ap (λ text. report_text t.lines ++ text) (sym (append-nil (entry_text (ending word)))) ∙ sym (report_text-append t.lines (ending word ∷ [])))

  count_in : (is_kind : Verdict → Bool) (n : ℕ) → n ≡ count_by is_kind words → n ≡ verdict_count is_kind (front most ++ rest)
  count_in is_kind n e = e ∙ ap (count_by is_kind) (sym words_in) ∙ sym (counts is_kind (front most ++ rest))

  pub reports : (text : List ℕ) × Reports drawn most cert (summary_by word tally) text × (new ≡ grown old text)
  reports = (
    report_text (front most ++ rest),
    record {
      lines = front most ++ rest;
      is_written = record { known = basis; reads = front_reads drawn most cert basis rest at_last rest_reads; has_budget = refl; texts = entries rest rest_reads };
      sums = record {
        ends = end_is;
        passes = count_in is_pass tally.passes counted.passes;
        fails = count_in is_fail tally.fails counted.fails;
        undecided = count_in is_undecided tally.undecided counted.undecided;
      };
      is_text = refl;
    },
    rest_text ∙ ap (λ current. grown current (report_text rest)) put ∙ grown-append old (report_text (front most)) (report_text rest) ∙ ap (grown old) (sym (report_text-append (front most) rest)),
  )

-- ---- the lines of events

-- the lines of events lead past all names
events_lead : (claims : LineClaims) (drawn : Drawn) (number : ℕ) (names : List Name) → LinesLead claims drawn (at_event number names) (events_from number names) (at_event (number + length names) [])
events_lead claims drawn number [] = ap (λ n. at_event n []) (sym (add-zero number))
events_lead claims drawn number (name ∷ names) =
    let counted : number + 1 + length names ≡ number + length (name ∷ names) = omega arith in
    (at_event (number + 1) names, (refl, refl), subst (λ n. LinesLead claims drawn (at_event (number + 1) names) (events_from (number + 1) names) (at_event n [])) counted (events_lead claims drawn (number + 1) names))

no_verdicts_of_events : (number : ℕ) (names : List Name) → verdicts_in (events_from number names) ≡ []
no_verdicts_of_events number [] = refl
no_verdicts_of_events number (name ∷ names) = no_verdicts_of_events (number + 1) names

no_end_of_events : (number : ℕ) (names : List Name) → end_in (events_from number names) ≡ None
no_end_of_events number [] = refl
no_end_of_events number (name ∷ names) = no_end_of_events (number + 1) names

all_events_lead : (claims : LineClaims) (drawn : Drawn) (count : ℕ) → length drawn.names ≡ count → LinesLead claims drawn at_events (event_lines drawn.names) (at_event count [])
all_events_lead claims drawn count same =
    let counted : 0 + length drawn.names ≡ count = omega (arith, same) in
    (at_event 0 drawn.names, (refl, refl), subst (λ n. LinesLead claims drawn (at_event 0 drawn.names) (events_from 0 drawn.names) (at_event n [])) counted (events_lead claims drawn 0 drawn.names))

-- what a put of the lines of events promises
pub events_go : {E : Type 0} (claims : LineClaims) (drawn : Drawn) (count : ℕ) (old new : SinkState) (result : Result ⊤ E) → length drawn.names ≡ count
    → Puts old new (report_text (event_lines drawn.names)) result → WritesVerdicts claims drawn at_events (λ _. at_event count []) (λ _. []) old new result
events_go claims drawn count old new (Ok x) same put = record {
  lines = event_lines drawn.names;
  reads = all_events_lead claims drawn count same;
  grew = put;
  words_are = no_verdicts_of_events 0 drawn.names;
  no_end = no_end_of_events 0 drawn.names;
}
events_go claims drawn count old new (Err e) same cut = record {
  lines = event_lines drawn.names;
  last = at_event count [];
  reads = all_events_lead claims drawn count same;
  cut = cut;
}
