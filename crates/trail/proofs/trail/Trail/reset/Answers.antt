use Rattle.std.proofs.Common.{length, ap, ◌∙◌, sym}
use Rattle.std.proofs.lemmas.List.{length-map}
use Rattle.trail.specs.Stack.{TrailView, new_stack}
use Rattle.trail.proofs.Steps.{stack_in-new_stack}
use Rattle.trail.proofs.trail.Trail.reset.Goals as goal

pub returns : goal.returns
returns c =
    let t = c.self.inside in
    let slots = t.slots.ok.0 ∙ sym (length-map t.slots.items (λ s. s.stamp)) in
    let now = record t { edges = c.clear.new.self; slots = c.fill.new.self; saved = c.clear-2.new.self; starts = c.clear-3.new.self } in
    stack_in-new_stack now t.slots.len c.clear.ensures.items (c.fill.ensures.items (λ y same. same)) c.clear-3.ensures.items ∙ ap (λ n. new_stack n t.levels) slots ∙ ap (λ (g : TrailView). new_stack (length g.current.stamps) g.levels) c.self.view_is
