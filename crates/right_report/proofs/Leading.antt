-- Steps of a writer of a report, one after another.
use Rattle.std.proofs.Common.{◌≡◌, ℕ, List, [], ◌∷◌, ◌++◌, map, Result, Ok, Err, IsErr, refl, sym, subst, ap, ◌∙◌, append_assoc, append-nil, inl}
use Rattle.itv_base.specs.Outside.{CutShort, Puts, SinkState, grown}
use Rattle.itv_base.proofs.Written.{cut_then, grown-append, grown-nil}
use Rattle.event_graph.specs.Proof.{ProofLine}
use Rattle.certificate.specs.Scribing.{SinkGrew, SinkWasCut}
use Rattle.certificate.specs.Text.{proof_line_text, proof_text}
use Rattle.slack_report.specs.Entry.{Entry, proof}
use Rattle.slack_report.specs.Text.{entry_text, report_text, words_of}
use Rattle.drawn_networks.specs.Drawn.{Drawn}
use Rattle.right_report.specs.Right.ReportState.{ReportState, NextBound, CurrentRow, at_bound, at_event, at_finding}
use Rattle.right_report.specs.Right.Following.{LineClaims, MayFollow, LinesLead}
use Rattle.slack_report.proofs.Judging.{report_text-append}
use Rattle.right_report.proofs.RightOrder.{reads-append}
use Rattle.right_report.specs.Writing.{WroteFront, WroteLines}
use Rattle.right_report.specs.Step.Writing.{WritesLines}
use Rattle.std.specs.Bool.{⊤}

-- the text of one line
pub line_text : (line : Entry) → entry_text line ≡ report_text (line ∷ [])
line_text line = sym (append-nil (entry_text line))

module _ {claims : LineClaims} {drawn : Drawn} where
  -- ---- lines that were put

  -- no line is put
  pub wrote_none : (here : ReportState) (current : SinkState) → WroteLines claims drawn here here current current
  wrote_none here current = record { lines = []; reads = refl; grew = grown-nil current }

  -- one line that may follow is put
  pub wrote_line : {here next : ReportState} {old new : SinkState} (line : Entry) → MayFollow claims drawn here line next → new ≡ grown old (entry_text line) → WroteLines claims drawn here next old new
  wrote_line {next = next} {old = old} line may put = record {
    lines = line ∷ [];
    reads = (next, may, refl);
    grew = put ∙ ap (grown old) (line_text line);
  }

  -- lines are put, and then others
  pub wrote_then : {here mid last : ReportState} {old now new : SinkState} → WroteLines claims drawn here mid old now → WroteLines claims drawn mid last now new → WroteLines claims drawn here last old new
  wrote_then {here = here} {mid = mid} {last = last} {old = old} a b = record {
    lines = a.lines ++ b.lines;
    reads = reads-append claims drawn a.lines b.lines here mid last a.reads b.reads;
    grew = b.grew ∙ ap (λ current. grown current (report_text b.lines)) a.grew ∙ grown-append old (report_text a.lines) (report_text b.lines)
        ∙ ap (grown old) (sym (report_text-append a.lines b.lines));
  }

  -- ---- a put that failed

  -- of one line that may follow, a front is put
  pub stopped_line : {here : ReportState} {old new : SinkState} (next : ReportState) (line : Entry) → MayFollow claims drawn here line next → CutShort old new (entry_text line) → WroteFront claims drawn here old new
  stopped_line {old = old} {new = new} next line may cut = record {
    lines = line ∷ [];
    last = next;
    reads = (next, may, refl);
    cut = subst (CutShort old new) (line_text line) cut;
  }

  -- lines are put, and then a front of others
  pub stopped_then : {here mid : ReportState} {old now new : SinkState} → WroteLines claims drawn here mid old now → WroteFront claims drawn mid now new → WroteFront claims drawn here old new
  stopped_then {here = here} {mid = mid} {old = old} {now = now} {new = new} a b = record {
    lines = a.lines ++ b.lines;
    last = b.last;
    reads = reads-append claims drawn a.lines b.lines here mid b.last a.reads b.reads;
    cut = subst (CutShort old new) (sym (report_text-append a.lines b.lines)) (cut_then old now new (report_text a.lines) (report_text b.lines) a.grew b.cut);
  }

  -- ---- steps

  -- lines are put, and then a step is done
  pub leads_then : {B E : Type 0} {here mid : ReportState} {old now : SinkState} (to : B → ReportState) (new : SinkState) (result : Result B E) → WroteLines claims drawn here mid old now
      → WritesLines claims drawn mid to now new result → WritesLines claims drawn here to old new result
  leads_then to new (Ok x) a b = wrote_then a b
  leads_then to new (Err e) a b = stopped_then a b

  -- a step failed, and so its caller fails
  pub leads_up : {B E : Type 0} {here : ReportState} {old new : SinkState} (to : B → ReportState) (result : Result B E) → IsErr result → WroteFront claims drawn here old new → WritesLines claims drawn here to old new result
  leads_up to (Ok x) is stopped = absurd (cc is)
  leads_up to (Err e) is stopped = stopped

-- one line is put, or a front of it
pub leads_line : {E : Type 0} (claims : LineClaims) (drawn : Drawn) (here next : ReportState) (old new : SinkState) (line : Entry) (result : Result ⊤ E) → MayFollow claims drawn here line next
    → Puts old new (entry_text line) result → WritesLines claims drawn here (λ (x : ⊤). next) old new result
leads_line claims drawn here next old new line (Ok x) may put = wrote_line line may put
leads_line claims drawn here next old new line (Err e) may put = stopped_line next line may put

-- ---- lines of proofs

-- lines of a proof stand before a bound
pub reads_bound_proof : (claims : LineClaims) (drawn : Drawn) (current : CurrentRow) (coming : NextBound) (before lines : List ProofLine)
    → LinesLead claims drawn (at_bound current coming before) (map proof lines) (at_bound current coming (before ++ lines))
reads_bound_proof claims drawn current coming before [] = ap (at_bound current coming) (sym (append-nil before))
reads_bound_proof claims drawn current coming before (line ∷ lines) = (
  at_bound current coming (before ++ line ∷ []),
  inl (line, refl, refl),
  subst (λ all. LinesLead claims drawn (at_bound current coming (before ++ line ∷ [])) (map proof lines) (at_bound current coming all)) (append_assoc before (line ∷ []) lines)
      (reads_bound_proof claims drawn current coming (before ++ line ∷ []) lines),
)

-- lines of a proof stand before the finding
pub reads_finding_proof : (claims : LineClaims) (drawn : Drawn) (before lines : List ProofLine) → LinesLead claims drawn (at_finding before) (map proof lines) (at_finding (before ++ lines))
reads_finding_proof claims drawn before [] = ap at_finding (sym (append-nil before))
reads_finding_proof claims drawn before (line ∷ lines) = (
  at_finding (before ++ line ∷ []),
  inl (line, refl, refl),
  subst (λ all. LinesLead claims drawn (at_finding (before ++ line ∷ [])) (map proof lines) (at_finding all)) (append_assoc before (line ∷ []) lines)
      (reads_finding_proof claims drawn (before ++ line ∷ []) lines),
)

-- the state after the events and lines of a proof
abbrev pub behind_proof : ℕ → List ProofLine → ReportState
behind_proof number [] = at_event number []
behind_proof number (line ∷ lines) = at_finding (line ∷ lines)

pub reads_event_proof : (claims : LineClaims) (drawn : Drawn) (number : ℕ) (lines : List ProofLine) → LinesLead claims drawn (at_event number []) (map proof lines) (behind_proof number lines)
reads_event_proof claims drawn number [] = refl
reads_event_proof claims drawn number (line ∷ lines) = (at_finding (line ∷ []), inl (line, refl, refl), reads_finding_proof claims drawn (line ∷ []) lines)

-- lines of a proof have the text of the same lines in a report
pub proof_text-lines : (lines : List ProofLine) → proof_text lines ≡ report_text (map proof lines)
unfolding words_of
proof_text-lines [] = refl
proof_text-lines (line ∷ lines) = ap (λ text. proof_line_text line ++ text) (proof_text-lines lines)

-- A search wrote its lines of a proof to a sink, whole or cut short. They are lines that lead from a state to another.
module _ {claims : LineClaims} {drawn : Drawn} {here : ReportState} {old new : SinkState} (last : ReportState) (lines : List ProofLine) (reads : LinesLead claims drawn here (map proof lines) last) where
  pub wrote_proof : SinkGrew old lines new → WroteLines claims drawn here last old new
  wrote_proof grew = record { lines = map proof lines; reads = reads; grew = grew ∙ ap (grown old) (proof_text-lines lines) }

  pub stopped_proof : SinkWasCut old lines new → WroteFront claims drawn here old new
  stopped_proof cut = record { lines = map proof lines; last = last; reads = reads; cut = subst (CutShort old new) (proof_text-lines lines) cut }
