-- The laws of scribes.
use Rattle.std.specs.Prelude.{◌≡◌, List, [], ◌∷◌, ◌++◌, refl}
use Rattle.std.proofs.Common.{sym, ap, subst, ◌∙◌, append_assoc, append-nil}
use Rattle.event_graph.specs.Proof.{ProofLine}
use Rattle.itv_base.specs.Outside.{CutShort, SinkState, grown, one_more_fault}
use Rattle.itv_base.proofs.Written.{cut_then, grown-append, grown-nil}
use Rattle.certificate.specs.Text.{proof_line_text, proof_text}
use Rattle.certificate.specs.Scribing.{SinkGrew, SinkWasCut, TreeView, TreeGrew, TreeWasCut}

-- ---- a scribe that writes the lines

pub proof_text-append : (xs ys : List ProofLine) → proof_text (xs ++ ys) ≡ proof_text xs ++ proof_text ys
proof_text-append [] ys = refl
proof_text-append (line ∷ xs) ys = ap (λ x. proof_line_text line ++ x) (proof_text-append xs ys) ∙ sym (append_assoc (proof_line_text line) (proof_text xs) (proof_text ys))

pub sink_none : (state : SinkState) → SinkGrew state [] state
sink_none state = grown-nil state

pub sink_more : (old mid new : SinkState) (xs ys : List ProofLine) → SinkGrew old xs mid → SinkGrew mid ys new → SinkGrew old (xs ++ ys) new
sink_more old mid new xs ys p q =
    q ∙ ap (λ m. grown m (proof_text ys)) p ∙ grown-append old (proof_text xs) (proof_text ys) ∙ ap (grown old) (sym (proof_text-append xs ys))

pub sink_cut : (old mid new : SinkState) (xs ys : List ProofLine) → SinkGrew old xs mid → SinkWasCut mid ys new → SinkWasCut old (xs ++ ys) new
sink_cut old mid new xs ys p q =
    subst (CutShort old new) (sym (proof_text-append xs ys)) (cut_then old mid new (proof_text xs) (proof_text ys) p q)

-- ---- a scribe that keeps the lines

pub tree_none : (s : TreeView) → TreeGrew s [] s
tree_none s = ap (λ lines. record s { lines = lines }) (sym (append-nil s.lines))

pub tree_more : (s t u : TreeView) (xs ys : List ProofLine) → TreeGrew s xs t → TreeGrew t ys u → TreeGrew s (xs ++ ys) u
tree_more s t u xs ys p q =
    q ∙ ap (λ (x : TreeView). record x { lines = x.lines ++ ys }) p ∙ ap (λ lines. record s { lines = lines }) (append_assoc s.lines xs ys)

pub tree_cut : (s t u : TreeView) (xs ys : List ProofLine) → TreeGrew s xs t → TreeWasCut t ys u → TreeWasCut s (xs ++ ys) u
tree_cut s t u xs ys p q = record {
  before = xs ++ q.before;
  last = q.last;
  parts = ap (λ (ls : List ProofLine). xs ++ ls) q.parts ∙ sym (append_assoc xs q.before (q.last ∷ []));
  kept = q.kept ∙ ap (λ (x : TreeView). x.lines ++ q.before) p ∙ append_assoc s.lines xs q.before;
  line_room = q.line_room ∙ ap (λ (x : TreeView). x.line_room) p;
  edge_room = q.edge_room ∙ ap (λ (x : TreeView). x.edge_room) p;
  faults = q.faults ∙ ap (λ (x : TreeView). one_more_fault x.faults) p;
  full = q.full;
}

pub tree_faults : (s t : TreeView) (xs : List ProofLine) → TreeGrew s xs t → t.faults ≡ s.faults
tree_faults s t xs p = ap (λ (x : TreeView). x.faults) p
