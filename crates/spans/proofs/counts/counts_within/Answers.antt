use Rattle.std.proofs.Common.{◌+◌, ℕ, All, length, sym, ap, subst, ◌∙◌}
use Rattle.std.proofs.lemmas.List.{length_push}
use Rattle.std.proofs.lemmas.List.Elements.{All-push}
use Rattle.spans.specs.Step.{IsCount}
use Rattle.spans.proofs.Multiples.{to_passed}
use Rattle.spans.proofs.counts.counts_within.Goals as goal

pub loop-event-preserved : goal.loop-event-preserved
loop-event-preserved c = record {
  number = ap length c.in_ok-push.ensures.items ∙ (length_push c.loop-event.counts.items _ ∙ ap (λ (n : ℕ). n + 1) c.loop-event.invariant.number);
  each = subst (All IsCount) (sym c.in_ok-push.ensures.items)
      (All-push IsCount c.loop-event.counts.items _ c.loop-event.invariant.each (to_passed IsCount c.within.result (record { sfits = c.within.type_inv }) c.within.ensures));
}
