use Rattle.std.proofs.Common.{◌≡◌, ◌<◌, ◌∙◌, ap, false, length, refl, subst, sym}
use Rattle.std.proofs.lemmas.List.{get_or_default}
use Rattle.diff_bounds.specs.Step.Waiting.{KeepsEvents, is_waiting}
use Rattle.diff_bounds.proofs.Queue.{lowered_queue, pushed_queue, written}
use Rattle.diff_bounds.proofs.pending.Pending.push.Goals as goal

pub invariant_of-self : goal.invariant_of-self
invariant_of-self c =
    let heap = written c.self.inside.heap c.deref_mut.result.now c.lower.new.heap c.deref_mut.ensures.value c.lower.auto.heap in
    let places = written c.self.inside.places c.deref_mut-then-index.result.now c.lower.new.places c.deref_mut-then-index.ensures.value c.lower.auto.places in
    let keeps = rw c.deref_mut.ensures.value at c.lower.ensures.events in
    lowered_queue c.self.inside _ c.self.invariant refl (subst (KeepsEvents c.self.inside.heap.items) (sym heap) keeps) refl
    (ap length places ∙ c.lower.ensures.places ∙ ap length c.deref_mut-then-index.ensures.value)

pub invariant_of-self-else-index : goal.invariant_of-self-else-index
invariant_of-self-else-index c =
    let within : c.args.event.0 < length c.self.inside.marks.items = rw (← c.self.view_is) at c.requires in
    let idle : is_waiting c.self.inside.marks.items c.args.event.0 ≡ false =
    sym (c.index.ensures ∙ get_or_default c.self.inside.marks.items c.args.event.0 c.index.result.now false within) ∙ c.if-index.false in
    let heap = written c.push_reserved.new.self c.deref_mut-else-index.result.now c.rise.new.heap c.deref_mut-else-index.ensures.value c.rise.auto.heap in
    let places = written c.self.inside.places c.deref_mut-else-index-2.result.now c.rise.new.places c.deref_mut-else-index-2.ensures.value c.rise.auto.places in
    let keeps = rw c.deref_mut-else-index.ensures.value at c.rise.ensures.events in
    pushed_queue c.self.inside _ c.args.event.0 _ c.push_reserved.new.self.items c.self.invariant within idle refl c.push_reserved.ensures.items refl
    (subst (KeepsEvents c.push_reserved.new.self.items) (sym heap) keeps) c.push_reserved.ensures.capacity
    (ap length places ∙ c.rise.ensures.places ∙ ap length c.deref_mut-else-index-2.ensures.value)
