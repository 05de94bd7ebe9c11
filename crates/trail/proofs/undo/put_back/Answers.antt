use Rattle.std.proofs.Common.{◌<◌, ◌∷◌, [], length, Some, sym, ap, ◌∙◌, arith, length-set}
use Rattle.std.proofs.lemmas.List.Elements.{All-pop}
use Rattle.trail.specs.Step.Undo.{slots_before}
use Rattle.trail.proofs.SlotsBefore.{slots_before-append}
use Rattle.trail.proofs.undo.put_back.Goals as goal

pub loop-last-preserved : goal.loop-last-preserved
loop-last-preserved c =
    let slots = c.loop-last.slots in
    let last = c.in-Some.last.now in
    let rest = c.in-Some.rest.now in
    let split = c.in-Some.ensures.cases.0 in
    let present = All-pop (λ e. e.slot < length slots) c.loop-last.left.now rest (Some last) split c.loop-last.invariant.0 in (
      λ k d lt. omega (arith, length-set slots last.slot last.was, present.0 k d lt),
      sym (slots_before-append rest (last ∷ []) slots) ∙ ap (λ saved. slots_before saved slots) (sym split) ∙ c.loop-last.invariant.1,
    )
