use Rattle.std.proofs.Common.{◌≡◌, ◌<◌, ◌≤◌, ◌∷◌, None, length, reverse, subst, sym, arith}
use Rattle.std.proofs.lemmas.List.{length-reverse}
use Rattle.event_graph.specs.Cases.{DecisionsView, cause_chosen}
use Rattle.event_graph.proofs.Choosing.{length_within}
use Rattle.event_graph.proofs.decisions.Decisions.push.Goals as goal

pub push_reserved-requires : goal.push_reserved-requires
push_reserved-requires c =
    let items = c.self.inside.choices.items in
    let within : c.args.choice.constraint < length c.self.inside.causes.items =
    subst (λ (v : DecisionsView). c.args.choice.constraint < v.room) (sym c.self.view_is) c.requires.constraint in
    let free : cause_chosen (reverse items) c.args.choice.constraint ≡ None =
    subst (λ (v : DecisionsView). cause_chosen v.chosen c.args.choice.constraint ≡ None) (sym c.self.view_is) c.requires.free in
    let few : length (c.args.choice ∷ reverse items) ≤ length c.self.inside.causes.items =
    length_within (length c.self.inside.causes.items) (c.args.choice ∷ reverse items) (within, free, c.self.invariant.table.choices) in
    omega (arith, length-reverse items, c.self.inside.choices.ok.0, c.self.invariant.room)
