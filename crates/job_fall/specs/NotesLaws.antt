-- The laws of the scribe that writes the lines of a derivation to a sink.
use Rattle.std.specs.Prelude.{◌≡◌, List, [], ◌∷◌, ◌++◌, refl}
use Rattle.std.proofs.Common.{sym, ap, subst, ◌∙◌, append_assoc}
use Rattle.itv_base.specs.Outside.{CutShort, SinkState, grown}
use Rattle.itv_base.proofs.Written.{cut_then, grown-append, grown-nil}
use Rattle.falling.specs.declared.line.FallLine.{FallLine}
use Rattle.job_fall.specs.FallText.{fall_line_text, fall_text}
use Rattle.job_fall.specs.Step.{SinkGrew, SinkWasCut}

pub fall_text-append : (xs ys : List FallLine) → fall_text (xs ++ ys) ≡ fall_text xs ++ fall_text ys
fall_text-append [] ys = refl
fall_text-append (line ∷ xs) ys = ap (λ x. fall_line_text line ++ x) (fall_text-append xs ys) ∙ sym (append_assoc (fall_line_text line) (fall_text xs) (fall_text ys))

pub sink_none : (current : SinkState) → SinkGrew current [] current
sink_none current = grown-nil current

pub sink_more : (old mid new : SinkState) (xs ys : List FallLine) → SinkGrew old xs mid → SinkGrew mid ys new → SinkGrew old (xs ++ ys) new
sink_more old mid new xs ys p q =
    q ∙ ap (λ m. grown m (fall_text ys)) p ∙ grown-append old (fall_text xs) (fall_text ys) ∙ ap (grown old) (sym (fall_text-append xs ys))

pub sink_cut : (old mid new : SinkState) (xs ys : List FallLine) → SinkGrew old xs mid → SinkWasCut mid ys new → SinkWasCut old (xs ++ ys) new
sink_cut old mid new xs ys p q =
    subst (CutShort old new) (sym (fall_text-append xs ys)) (cut_then old mid new (fall_text xs) (fall_text ys) p q)
