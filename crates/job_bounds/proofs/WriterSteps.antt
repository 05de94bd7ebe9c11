-- Steps of the writer, one after another.
use Rattle.std.proofs.Common.{◌≡◌, ℕ, ℤ, Bool, List, [], ◌∷◌, ◌++◌, map, None, Result, Ok, Err, IsErr, refl, sym, subst, ap, ◌∙◌}
use Rattle.std.specs.Bool.{⊤}
use Rattle.std.specs.Prelude.{IfOk, OnErr}
use Rattle.itv_base.specs.Outside.{Puts, SinkState, grown}
use Rattle.event_graph.specs.Network.{Net}
use Rattle.event_graph.specs.Proof.{ProofLine}
use Rattle.job_bounds.specs.Step.Searched.{sized}
use Rattle.certificate.specs.Scribing.{SinkGrew}
use Rattle.itv_base.proofs.Written.{grown-append, grown-nil}
use Rattle.slack_report.proofs.Judging.{report_text-append}
use Rattle.right_report.proofs.RightOrder.{reads-append}
use Rattle.requirements.specs.declared.verdict.Verdict.{Verdict}
use Rattle.slack_report.specs.Entry.{Entry, heading, budget, events, event, proof, finding, times, rows, row, bound, raise, verdict, slack, ending}
use Rattle.slack_report.specs.Text.{entry_text, report_text, words_of}
use Rattle.drawn_networks.specs.Drawn.{Drawn}
use Rattle.right_report.specs.Right.ReportState.{ReportState}
use Rattle.right_report.specs.Right.Following.{LineClaims, MayFollow, LinesLead}
use Rattle.right_report.proofs.Leading.{stopped_line, stopped_then, line_text, proof_text-lines}
use Rattle.right_report.specs.ReportContents.{end_in}
use Rattle.right_report.specs.Writing.{WroteFront, WroteLines}
use Rattle.job_bounds.specs.Step.Writing.{WritesVerdicts, WroteVerdicts, verdicts_in}

-- ---- verdicts and ends of lines

pub verdicts-append : (a b : List Entry) → verdicts_in (a ++ b) ≡ verdicts_in a ++ verdicts_in b
verdicts-append [] b = refl
verdicts-append (heading ∷ a) b = verdicts-append a b
verdicts-append (budget n ∷ a) b = verdicts-append a b
verdicts-append (events n ∷ a) b = verdicts-append a b
verdicts-append (event n name ∷ a) b = verdicts-append a b
verdicts-append (proof line ∷ a) b = verdicts-append a b
verdicts-append (finding word ∷ a) b = verdicts-append a b
verdicts-append (times list ∷ a) b = verdicts-append a b
verdicts-append (rows n ∷ a) b = verdicts-append a b
verdicts-append (row n kind from to ∷ a) b = verdicts-append a b
verdicts-append (bound which value ∷ a) b = verdicts-append a b
verdicts-append (raise set ∷ a) b = verdicts-append a b
verdicts-append (verdict word ∷ a) b = ap (λ words. word ∷ words) (verdicts-append a b)
verdicts-append (slack value ∷ a) b = verdicts-append a b
verdicts-append (ending word ∷ a) b = verdicts-append a b

pub end_in-append : (a b : List Entry) → end_in a ≡ None → end_in (a ++ b) ≡ end_in b
end_in-append [] b none = refl
end_in-append (heading ∷ a) b none = end_in-append a b none
end_in-append (budget n ∷ a) b none = end_in-append a b none
end_in-append (events n ∷ a) b none = end_in-append a b none
end_in-append (event n name ∷ a) b none = end_in-append a b none
end_in-append (proof line ∷ a) b none = end_in-append a b none
end_in-append (finding word ∷ a) b none = end_in-append a b none
end_in-append (times list ∷ a) b none = end_in-append a b none
end_in-append (rows n ∷ a) b none = end_in-append a b none
end_in-append (row n kind from to ∷ a) b none = end_in-append a b none
end_in-append (bound which value ∷ a) b none = end_in-append a b none
end_in-append (raise set ∷ a) b none = end_in-append a b none
end_in-append (verdict word ∷ a) b none = end_in-append a b none
end_in-append (slack value ∷ a) b none = end_in-append a b none
end_in-append (ending word ∷ a) b none = absurd (cc none)

-- lines of proofs have no verdicts and no end
no_verdicts : (lines : List ProofLine) → verdicts_in (map proof lines) ≡ []
no_verdicts [] = refl
no_verdicts (line ∷ lines) = no_verdicts lines

no_end_in : (lines : List ProofLine) → end_in (map proof lines) ≡ None
no_end_in [] = refl
no_end_in (line ∷ lines) = no_end_in lines

-- ---- lines that were put

module _ {claims : LineClaims} {drawn : Drawn} where
  -- no line is put
  pub told_none : (here : ReportState) (current : SinkState) → WroteVerdicts claims drawn here here [] current current
  told_none here current = record { lines = []; reads = refl; grew = grown-nil current; words_are = refl; no_end = refl }

  -- one line that may follow is put
  pub told_line : {here next : ReportState} {old new : SinkState} (line : Entry) → MayFollow claims drawn here line next → new ≡ grown old (entry_text line) → end_in (line ∷ []) ≡ None
      → WroteVerdicts claims drawn here next (verdicts_in (line ∷ [])) old new
  told_line {next = next} {old = old} line may put none = record {
    lines = line ∷ [];
    reads = (next, may, refl);
    grew = put ∙ ap (grown old) (line_text line);
    words_are = refl;
    no_end = none;
  }

  pub wrote_of : {here last : ReportState} {old new : SinkState} {words : List Verdict} → WroteVerdicts claims drawn here last words old new → WroteLines claims drawn here last old new
  wrote_of t = record { lines = t.lines; reads = t.reads; grew = t.grew }

  -- lines are put, and then others
  pub told_then : {here mid last : ReportState} {old now new : SinkState} {xs ys : List Verdict} → WroteVerdicts claims drawn here mid xs old now → WroteVerdicts claims drawn mid last ys now new
      → WroteVerdicts claims drawn here last (xs ++ ys) old new
  told_then {here = here} {mid = mid} {last = last} {old = old} {xs = xs} a b = record {
    lines = a.lines ++ b.lines;
    reads = reads-append claims drawn a.lines b.lines here mid last a.reads b.reads;
    grew = b.grew ∙ ap (λ current. grown current (report_text b.lines)) a.grew ∙ grown-append old (report_text a.lines) (report_text b.lines)
        ∙ ap (grown old) (sym (report_text-append a.lines b.lines));
    words_are = verdicts-append a.lines b.lines ∙ ap (λ words. words ++ verdicts_in b.lines) a.words_are ∙ ap (λ words. xs ++ words) b.words_are;
    no_end = end_in-append a.lines b.lines a.no_end ∙ b.no_end;
  }

  -- the last report state of lines that were put, by an equal one
  pub told_at : {here mid last : ReportState} {old new : SinkState} {words : List Verdict} → mid ≡ last → WroteVerdicts claims drawn here mid words old new → WroteVerdicts claims drawn here last words old new
  told_at {here = here} {old = old} {new = new} {words = words} e t = subst (λ (at : ReportState). WroteVerdicts claims drawn here at words old new) e t

  -- the first report state of lines that were put, by an equal one
  pub told_from : {here mid last : ReportState} {old new : SinkState} {words : List Verdict} → mid ≡ here → WroteVerdicts claims drawn mid last words old new → WroteVerdicts claims drawn here last words old new
  told_from {last = last} {old = old} {new = new} {words = words} e t = subst (λ (at : ReportState). WroteVerdicts claims drawn at last words old new) e t

  pub stopped_from : {here mid : ReportState} {old new : SinkState} → mid ≡ here → WroteFront claims drawn mid old new → WroteFront claims drawn here old new
  stopped_from {old = old} {new = new} e t = subst (λ (at : ReportState). WroteFront claims drawn at old new) e t

  -- lines of a proof are put
  pub told_proof : {here : ReportState} {old new : SinkState} (last : ReportState) (lines : List ProofLine) → LinesLead claims drawn here (map proof lines) last → SinkGrew old lines new
      → WroteVerdicts claims drawn here last [] old new
  told_proof {old = old} last lines reads grew = record {
    lines = map proof lines;
    reads = reads;
    grew = grew ∙ ap (grown old) (proof_text-lines lines);
    words_are = no_verdicts lines;
    no_end = no_end_in lines;
  }

  -- lines are put, and then a step is done
  pub goes_then : {B E : Type 0} {here mid : ReportState} {old now : SinkState} {xs : List Verdict} (to : B → ReportState) (words : B → List Verdict) (new : SinkState) (result : Result B E)
      → WroteVerdicts claims drawn here mid xs old now → WritesVerdicts claims drawn mid to words now new result → WritesVerdicts claims drawn here to (λ x. xs ++ words x) old new result
  goes_then to words new (Ok x) a b = told_then a b
  goes_then to words new (Err e) a b = stopped_then (wrote_of a) b

  -- a step failed, and so its caller fails
  pub goes_up : {B E : Type 0} {here : ReportState} {old new : SinkState} (to : B → ReportState) (words : B → List Verdict) (result : Result B E) → IsErr result → WroteFront claims drawn here old new
      → WritesVerdicts claims drawn here to words old new result
  goes_up to words (Ok x) is stopped = absurd (cc is)
  goes_up to words (Err e) is stopped = stopped

  -- lines are put, and then a front of others
  pub stops_then : {here mid : ReportState} {old now new : SinkState} {xs : List Verdict} → WroteVerdicts claims drawn here mid xs old now → WroteFront claims drawn mid now new → WroteFront claims drawn here old new
  stops_then a b = stopped_then (wrote_of a) b

-- lines that were put for a network were put for an equal network
pub told_net : {net other : Net} (most : ℕ) (cert : Bool) (basis : List ℤ) {drawn : Drawn} {here last : ReportState} {words : List Verdict} {old new : SinkState} → net ≡ other
    → WroteVerdicts (sized net most cert basis) drawn here last words old new → WroteVerdicts (sized other most cert basis) drawn here last words old new
told_net most cert basis {drawn = drawn} {here = here} {last = last} {words = words} {old = old} {new = new} e t =
    subst (λ (net : Net). WroteVerdicts (sized net most cert basis) drawn here last words old new) e t

pub stopped_net : {net other : Net} (most : ℕ) (cert : Bool) (basis : List ℤ) {drawn : Drawn} {here : ReportState} {old new : SinkState} → net ≡ other
    → WroteFront (sized net most cert basis) drawn here old new → WroteFront (sized other most cert basis) drawn here old new
stopped_net most cert basis {drawn = drawn} {here = here} {old = old} {new = new} e t = subst (λ (net : Net). WroteFront (sized net most cert basis) drawn here old new) e t

-- ---- answers

pub if_ok : {B E : Type 0} (P Q : B → Type 0) (result : Result B E) → ((x : B) → P x → Q x) → IfOk result P → IfOk result Q
if_ok P Q (Ok x) f p = f x p
if_ok P Q (Err e) f p = tt

pub err_then : {B E : Type 0} (P Q : Type 0) (result : Result B E) → (P → Q) → OnErr result P → OnErr result Q
err_then P Q (Ok x) f p = tt
err_then P Q (Err e) f p = f p

-- one line is put, or a front of it
pub goes_line : {E : Type 0} (claims : LineClaims) (drawn : Drawn) (here next : ReportState) (old new : SinkState) (line : Entry) (result : Result ⊤ E) → MayFollow claims drawn here line next
    → end_in (line ∷ []) ≡ None → Puts old new (entry_text line) result → WritesVerdicts claims drawn here (λ (x : ⊤). next) (λ (x : ⊤). verdicts_in (line ∷ [])) old new result
goes_line claims drawn here next old new line (Ok x) may none put = told_line line may put none
goes_line claims drawn here next old new line (Err e) may none put = stopped_line next line may put
