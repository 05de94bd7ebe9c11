-- Steps of the writer, one after another.
use Rattle.std.proofs.Common.{◌≡◌, ◌≤◌, ℕ, Bool, true, false, List, [], ◌∷◌, ◌++◌, Result, Ok, Err, IsErr, refl, sym, subst, ap, ◌∙◌, append-nil, append_assoc, arith}
use Rattle.std.specs.List.{concat}
use Rattle.std.proofs.lemmas.List.Folds.{concat-append}
use Rattle.itv_base.specs.Outside.{CutShort, SinkState, grown}
use Rattle.itv_base.proofs.Written.{cut_then, grown-append, grown-nil}
use Rattle.falling.specs.Derivation.{starting_values}
use Rattle.falling.specs.declared.line.FallLine.{FallLine}
use Rattle.job_fall.specs.FallText.{fall_text}
use Rattle.job_fall.specs.Fall.{AreBegun, Job, PieceMayFollow, TextState, PiecesLead, at_bound, at_end, at_finding, at_last, at_row, at_rows}
use Rattle.job_fall.specs.Shows.{first_event}
use Rattle.job_fall.specs.Step.{WritesPieces, SinkGrew, SinkWasCut, WrotePieceFront, WrotePieces}
use Rattle.job_fall.specs.Text.{printed}
use Rattle.job_fall.specs.View.{seen, source}

reads-append : (job : Job) (xs ys : List (List ℕ)) (here mid last : TextState) → PiecesLead job here xs mid → PiecesLead job mid ys last → PiecesLead job here (xs ++ ys) last
reads-append job [] ys here mid last e reads = subst (λ (at : TextState). PiecesLead job at ys last) (sym e) reads
reads-append job (x ∷ xs) ys here mid last (next, may, rest) reads = (next, may, reads-append job xs ys next mid last rest reads)

pub zero-≤ : (n : ℕ) → 0 ≤ n
zero-≤ n = omega arith

-- no lines begin every derivation
printed_none : (cert : Bool) → [] ≡ printed cert []
printed_none true = refl
printed_none false = refl

pub none_begun : (job : Job) (place : TextState) → AreBegun job place []
none_begun job at_finding = ([], zero-≤ job.turns, printed_none job.cert, starting_values (seen job.view job.drawn.net) first_event, refl)
none_begun job at_rows = refl
none_begun job (at_row current) = refl
none_begun job (at_bound current which) = ([], zero-≤ job.turns, printed_none job.cert, starting_values (seen job.view job.drawn.net) (source job.view which current.row), refl)
none_begun job (at_end word) = refl
none_begun job (at_last word) = refl

module _ {job : Job} where
  -- ---- pieces that were put

  pub told_none : (here : TextState) (current : SinkState) → WrotePieces job here here current current
  told_none here current = record { pieces = []; reads = refl; grew = grown-nil current }

  -- one piece that may follow is put
  pub told_piece : {here : TextState} {old new : SinkState} (next : TextState) (piece : List ℕ) → PieceMayFollow job here piece next → new ≡ grown old piece → WrotePieces job here next old new
  told_piece {old = old} next piece may put = record { pieces = piece ∷ []; reads = (next, may, refl); grew = put ∙ ap (grown old) (sym (append-nil piece)) }

  pub told_then : {here mid last : TextState} {old now new : SinkState} → WrotePieces job here mid old now → WrotePieces job mid last now new → WrotePieces job here last old new
  told_then {here = here} {mid = mid} {last = last} {old = old} a b = record {
    pieces = a.pieces ++ b.pieces;
    reads = reads-append job a.pieces b.pieces here mid last a.reads b.reads;
    grew = b.grew ∙ ap (λ current. grown current (concat b.pieces)) a.grew ∙ grown-append old (concat a.pieces) (concat b.pieces)
        ∙ ap (grown old) (sym (concat-append a.pieces b.pieces));
  }

  -- pieces lead to an equal state
  pub told_at : {here mid last : TextState} {old new : SinkState} → mid ≡ last → WrotePieces job here mid old new → WrotePieces job here last old new
  told_at {here = here} {old = old} {new = new} e t = subst (λ (at : TextState). WrotePieces job here at old new) e t

  -- ---- a put that failed

  -- a front of one piece that may follow is put
  pub stopped_piece : {here : TextState} {old new : SinkState} (next : TextState) (piece : List ℕ) → PieceMayFollow job here piece next → CutShort old new piece → WrotePieceFront job here old new
  stopped_piece {old = old} {new = new} next piece may cut = record {
    pieces = piece ∷ [];
    last = next;
    reads = (next, may, refl);
    begun = [];
    are_begun = none_begun job next;
    cut = subst (CutShort old new) (sym (append-nil piece) ∙ sym (append-nil (piece ++ []))) cut;
  }

  -- a search fails in the lines of its derivation
  pub stopped_search : {here : TextState} {old new : SinkState} (begun : List FallLine) → AreBegun job here begun → SinkWasCut old begun new → WrotePieceFront job here old new
  stopped_search {here = here} begun are cut = record { pieces = []; last = here; reads = refl; begun = begun; are_begun = are; cut = cut }

  -- pieces are put, and then a front of other pieces
  pub stops_then : {here mid : TextState} {old now new : SinkState} → WrotePieces job here mid old now → WrotePieceFront job mid now new → WrotePieceFront job here old new
  stops_then {here = here} {mid = mid} {old = old} {now = now} {new = new} a b = record {
    pieces = a.pieces ++ b.pieces;
    last = b.last;
    reads = reads-append job a.pieces b.pieces here mid b.last a.reads b.reads;
    begun = b.begun;
    are_begun = b.are_begun;
    cut = subst (CutShort old new) (joined (concat a.pieces) (concat b.pieces) (concat (a.pieces ++ b.pieces)) (fall_text b.begun) (concat-append a.pieces b.pieces))
        (cut_then old now new (concat a.pieces) (concat b.pieces ++ fall_text b.begun) a.grew b.cut);
  }
    where
      joined : (a b ab c : List ℕ) → ab ≡ a ++ b → a ++ (b ++ c) ≡ ab ++ c
      joined a b ab c e = sym (append_assoc a b c) ∙ ap (λ text. text ++ c) (sym e)

  -- ---- steps

  -- if a step fails, its caller fails in the same way
  pub goes_up : {B E : Type 0} {here : TextState} {old new : SinkState} (to : B → TextState) (result : Result B E) → IsErr result → WrotePieceFront job here old new → WritesPieces job here to old new result
  goes_up to (Ok x) is stopped = absurd (cc is)
  goes_up to (Err e) is stopped = stopped

  -- pieces are put, and then a step is done
  pub goes_then : {B E : Type 0} {here mid : TextState} {old now : SinkState} (to : B → TextState) (new : SinkState) (result : Result B E) → WrotePieces job here mid old now
      → WritesPieces job mid to now new result → WritesPieces job here to old new result
  goes_then to new (Ok x) a b = told_then a b
  goes_then to new (Err e) a b = stops_then a b

  -- the lines of a search are put, and then the text of what they show
  pub told_shown : {here : TextState} {old now new : SinkState} (next : TextState) (lines : List FallLine) (text : List ℕ) → PieceMayFollow job here (fall_text lines ++ text) next → SinkGrew old lines now
      → new ≡ grown now text → WrotePieces job here next old new
  told_shown {old = old} next lines text may grew put =
      told_piece next (fall_text lines ++ text) may (put ∙ ap (λ current. grown current text) grew ∙ grown-append old (fall_text lines) text)

  pub stopped_shown : {here : TextState} {old now new : SinkState} (next : TextState) (lines : List FallLine) (text : List ℕ) → PieceMayFollow job here (fall_text lines ++ text) next → SinkGrew old lines now
      → CutShort now new text → WrotePieceFront job here old new
  stopped_shown {old = old} {now = now} {new = new} next lines text may grew cut =
      stopped_piece next (fall_text lines ++ text) may (cut_then old now new (fall_text lines) text grew cut)

-- if the lines are not wanted, nothing is put
pub quiet : (cert : Bool) (current : SinkState) (lines : List FallLine) → cert ≡ false → SinkGrew current (printed cert lines) current
quiet true current lines e = absurd (cc e)
quiet false current lines e = grown-nil current

pub quiet_none : (cert : Bool) (current : SinkState) → SinkGrew current (printed cert []) current
quiet_none true current = grown-nil current
quiet_none false current = grown-nil current
