use Rattle.std.proofs.Common.{◌≡◌, eqb, Some, slice_get, sym, ap, ◌∙◌}
use Rattle.std.specs.Option.{option_eq}
use Rattle.std.proofs.lemmas.Bool.{iff_false}
use Rattle.event_graph.specs.Edges.{IsAlways}
use Rattle.cert_checker.specs.Faults.{is_chosen}
use Rattle.cert_checker.proofs.ChosenCauses.{chosen_cause, chosen_usable, unchosen_unusable}
use Rattle.cert_checker.proofs.walk.is_usable.Goals as goal

pub returns-then-eq : goal.returns-then-eq
returns-then-eq c =
    let not_always : IsAlways c.args.net.now c.args.name → ⊥ = iff_false c.is_always.ensures.always c.if-is_always.false in
    let shown : c.eq.result ≡ is_chosen c.args.chosen.now.chosen c.args.name.constraint c.args.name.cause =
    c.eq.ensures ∙ (ap (λ o. option_eq eqb o (Some c.args.name.cause)) c.cause_of.ensures
    ∙ chosen_cause c.args.net.now c.args.chosen.now.chosen c.args.name.constraint c.args.name.cause c.requires.case) in
    c.is_choice_side.ensures
    ∙ chosen_usable c.args.chosen.now.chosen c.args.name (slice_get c.args.net.now.constraints c.args.name.constraint) c.kind.result
    (λ always. not_always (c.requires.there, always)) (sym shown ∙ c.if-eq.true) c.kind.ensures.kind

pub returns-else-eq : goal.returns-else-eq
returns-else-eq c =
    let not_always : IsAlways c.args.net.now c.args.name → ⊥ = iff_false c.is_always.ensures.always c.if-is_always.false in
    let shown : c.eq.result ≡ is_chosen c.args.chosen.now.chosen c.args.name.constraint c.args.name.cause =
    c.eq.ensures ∙ (ap (λ o. option_eq eqb o (Some c.args.name.cause)) c.cause_of.ensures
    ∙ chosen_cause c.args.net.now c.args.chosen.now.chosen c.args.name.constraint c.args.name.cause c.requires.case) in
    c.if-eq.false
    ∙ sym (unchosen_unusable c.args.chosen.now.chosen c.args.name (slice_get c.args.net.now.constraints c.args.name.constraint)
    (λ always. not_always (c.requires.there, always)) (sym shown ∙ c.if-eq.false))
