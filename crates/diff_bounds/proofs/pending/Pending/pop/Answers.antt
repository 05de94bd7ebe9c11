use Rattle.std.proofs.Common.{◌∙◌, ◌<◌, ap, arith, length, refl, subst, sym}
use Rattle.diff_bounds.specs.Step.Waiting.{KeepsEvents}
use Rattle.diff_bounds.proofs.Queue.{popped_queue, written}
use Rattle.diff_bounds.proofs.pending.Pending.pop.Goals as goal

pub invariant_of-self : goal.invariant_of-self
invariant_of-self c =
    let some : 0 < length c.self.inside.heap.items = omega (arith, c.swap_remove-first.ensures.len) in
    let heap = written c.swap_remove-first.new.self c.deref_mut.result.now c.sink.new.heap c.deref_mut.ensures.value c.sink.auto.heap in
    let places = written c.self.inside.places c.deref_mut-then-not-is_empty.result.now c.sink.new.places c.deref_mut-then-not-is_empty.ensures.value c.sink.auto.places in
    let keeps = rw c.deref_mut.ensures.value at c.sink.ensures.events in
    (popped_queue c.self.inside _ c.swap_remove-first.result c.swap_remove-first.new.self.items c.self.invariant some c.swap_remove-first.ensures.value c.swap_remove-first.ensures.items refl
    (subst (KeepsEvents c.swap_remove-first.new.self.items) (sym heap) keeps) c.swap_remove-first.ensures.capacity
    (ap length places ∙ c.sink.ensures.places ∙ ap length c.deref_mut-then-not-is_empty.ensures.value)).0
