use Rattle.std.proofs.Common.{◌≡◌, ◌<◌, ◌↔◌, ◌∷◌, ◌++◌, [], ℤ, ◌<ℤ◌, IsTrue, List, length, sym, ap, ◌∙◌, subst, arith}
use Rattle.event_graph.specs.Times.{time_of}
use Rattle.edge_clauses.specs.declared.bounds.BoundSide.TheVariants.{Up}
use Rattle.edge_clauses.specs.Step.Bounding.{EventBoundsView}
use Rattle.edge_clauses.proofs.Bounding.{up_flags, up_outside}
use Rattle.edge_clauses.proofs.bounds.EventBounds.lower.Goals as goal

pub invariant_of-self-2 : goal.invariant_of-self-2
invariant_of-self-2 c =
    let within : c.args.bound.event.0 < length c.self.inside.up.items = omega (arith, c.self.inside.up.ok.0) in
    let moves : c.args.bound.value <ℤ time_of c.self.inside.up.items c.args.bound.event = subst (λ (p : EventBoundsView). c.args.bound.value <ℤ time_of p.now.up c.args.bound.event) (sym c.self.view_is) c.requires.lower in
    let pushed : c.push.new.self.items ≡ c.self.inside.changes.items ++ (record { side = Up; event = c.args.bound.event; old = time_of c.self.inside.up.items c.args.bound.event }) ∷ [] =
    cc (c.in_ok-push.ensures.items, c.change_of.ensures, c.deref.ensures.value) in
    let passes : IsTrue c.is_above.result ↔ (c.args.bound.value <ℤ time_of c.self.inside.low.items c.args.bound.event) = subst (λ (values : List ℤ). IsTrue c.is_above.result ↔ (c.args.bound.value <ℤ time_of values c.args.bound.event)) c.deref-2.ensures.value c.is_above.ensures in
    up_flags c.self.inside.changes.items c.push.new.self.items c.self.inside.up.items c.self.inside.low.items c.set_to.new.values.items c.args.bound.event c.args.bound.value
    c.self.inside.has_crossed c.self.inside.had_crossed c.is_either-self-inside.result c.is_above.result within moves pushed c.set_to.ensures c.self.invariant passes
    c.is_either-self-inside.ensures

pub returns-clause-outside : goal.returns-clause-outside
returns-clause-outside c =
    let pushed : c.push.new.self.items ≡ c.self.inside.changes.items ++ (record { side = Up; event = c.args.bound.event; old = time_of c.self.inside.up.items c.args.bound.event }) ∷ [] =
    cc (c.in_ok-push.ensures.items, c.change_of.ensures, c.deref.ensures.value) in
    up_outside c.self.inside.changes.items c.push.new.self.items c.self.inside.up.items c.self.inside.low.items c.set_to.new.values.items c.args.bound.event c.args.bound.value pushed c.set_to.ensures
    ∙ ap (λ (p : EventBoundsView). p.outside) c.self.view_is
