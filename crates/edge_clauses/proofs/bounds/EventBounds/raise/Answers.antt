use Rattle.std.proofs.Common.{◌≡◌, ◌<◌, ◌↔◌, ◌∷◌, ◌++◌, [], ℤ, ◌<ℤ◌, IsTrue, List, length, sym, ap, ◌∙◌, subst, arith}
use Rattle.event_graph.specs.Times.{time_of}
use Rattle.edge_clauses.specs.declared.bounds.BoundSide.TheVariants.{Low}
use Rattle.edge_clauses.specs.Step.Bounding.{EventBoundsView}
use Rattle.edge_clauses.proofs.Bounding.{low_flags, low_outside}
use Rattle.edge_clauses.proofs.bounds.EventBounds.raise.Goals as goal

pub invariant_of-self-2 : goal.invariant_of-self-2
invariant_of-self-2 c =
    let within : c.args.bound.event.0 < length c.self.inside.low.items = omega (arith, c.self.inside.low.ok.0) in
    let moves : time_of c.self.inside.low.items c.args.bound.event <ℤ c.args.bound.value = subst (λ (p : EventBoundsView). time_of p.now.low c.args.bound.event <ℤ c.args.bound.value) (sym c.self.view_is) c.requires.higher in
    let pushed : c.push.new.self.items ≡ c.self.inside.changes.items ++ (record { side = Low; event = c.args.bound.event; old = time_of c.self.inside.low.items c.args.bound.event }) ∷ [] =
    cc (c.in_ok-push.ensures.items, c.change_of.ensures, c.deref.ensures.value) in
    let passes : IsTrue c.is_below.result ↔ (time_of c.self.inside.up.items c.args.bound.event <ℤ c.args.bound.value) = subst (λ (values : List ℤ). IsTrue c.is_below.result ↔ (time_of values c.args.bound.event <ℤ c.args.bound.value)) c.deref-2.ensures.value c.is_below.ensures in
    low_flags c.self.inside.changes.items c.push.new.self.items c.self.inside.up.items c.self.inside.low.items c.set_to.new.values.items c.args.bound.event c.args.bound.value
    c.self.inside.has_crossed c.self.inside.had_crossed c.is_either-self-inside.result c.is_below.result within moves pushed c.set_to.ensures c.self.invariant passes
    c.is_either-self-inside.ensures

pub returns-clause-outside : goal.returns-clause-outside
returns-clause-outside c =
    let pushed : c.push.new.self.items ≡ c.self.inside.changes.items ++ (record { side = Low; event = c.args.bound.event; old = time_of c.self.inside.low.items c.args.bound.event }) ∷ [] =
    cc (c.in_ok-push.ensures.items, c.change_of.ensures, c.deref.ensures.value) in
    low_outside c.self.inside.changes.items c.push.new.self.items c.self.inside.up.items c.self.inside.low.items c.set_to.new.values.items c.args.bound.event c.args.bound.value pushed c.set_to.ensures
    ∙ ap (λ (p : EventBoundsView). p.outside) c.self.view_is
