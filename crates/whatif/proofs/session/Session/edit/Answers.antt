use Rattle.std.proofs.Common.{◌≡◌, length, All, ◌∙◌, ap, sym, subst, arith}
use Rattle.std.proofs.lemmas.List.{with_items_is}
use Rattle.event_graph.specs.Network.{Net}
use Rattle.whatif.specs.Session.{HasPlaces, IsPairOf, SessionView}
use Rattle.whatif.specs.Step.Bounds.{IsPairIn}
use Rattle.whatif.proofs.Sessions.{count_bounds, events-with_ranges, length-with_ranges, pairs_in, sound_behind}
use Rattle.whatif.proofs.session.Session.edit.Goals as goal

pub settle_by-requires-clause-count : goal.settle_by-requires-clause-count
settle_by-requires-clause-count c =
    let count = count_bounds c.self.inside.pairs.items c.self.inside.bounds.items c.self.invariant.right.pairs in
    omega (arith, ap length c.deref_mut.ensures.value, count, c.self.invariant.count)

pub settle_by-requires-clause-room : goal.settle_by-requires-clause-room
settle_by-requires-clause-room c =
    c.self.invariant.room_is
    ∙ sym (ap (λ (n : Net). length n.constraints) c.in_ok-work.ensures.set ∙ length-with_ranges c.self.inside.net c.args.causes.now c.args.range)

pub settle_by-requires-clause-places : goal.settle_by-requires-clause-places
settle_by-requires-clause-places c =
    let events : c.work_for.new.net.events ≡ c.self.inside.net.events = ap (λ (n : Net). n.events) c.in_ok-work.ensures.set ∙ events-with_ranges c.self.inside.net c.args.causes.now c.args.range in
    subst (All (HasPlaces c.work_for.new.net.events)) (sym c.deref_mut.ensures.value)
    (subst (λ n. All (HasPlaces n) c.self.inside.bounds.items) (sym events) c.self.invariant.places)

pub settle_by-requires-clause-pairs : goal.settle_by-requires-clause-pairs
settle_by-requires-clause-pairs c =
    let events : c.work_for.new.net.events ≡ c.self.inside.net.events = ap (λ (n : Net). n.events) c.in_ok-work.ensures.set ∙ events-with_ranges c.self.inside.net c.args.causes.now c.args.range in
    subst (All (IsPairIn c.work_for.new.net.events)) (sym c.deref_mut.ensures.value)
    (pairs_in c.work_for.new.net.events c.self.inside.pairs.items c.self.inside.bounds.items c.self.invariant.right.pairs
    (subst (λ n. All (IsPairOf n) c.self.inside.pairs.items) (sym events) c.self.invariant.right.within))

pub invariant_of-self-2 : goal.invariant_of-self-2
invariant_of-self-2 c =
    let old : SessionView = record { net = c.self.inside.net; budget = c.self.inside.budget; pairs = c.self.inside.pairs.items; found = c.self.inside.found; bounds = c.self.inside.bounds.items } in
    sound_behind old c.args.causes.now c.args.range c.work_for.new.net c.settle_by.new.found c.deref_mut.result.now c.settle_by.new.bounds _ c.settle_by.result
    c.self.inside.checker.room c.settle_by.new.checker.room c.self.invariant c.in_ok-work.ensures.set c.in_ok-work.ensures.made.is_net c.settle_by.ensures.finding c.settle_by.ensures.settled
    c.settle_by.ensures.room c.settle_by.ensures.places c.deref_mut.ensures.value
    (with_items_is c.self.inside.bounds c.settle_by.new.bounds (c.settle_by.auto.bounds ∙ ap length c.deref_mut.ensures.value ∙ sym c.self.inside.bounds.ok.0))

pub returns-clause-right : goal.returns-clause-right
returns-clause-right c =
    let old : SessionView = record { net = c.self.inside.net; budget = c.self.inside.budget; pairs = c.self.inside.pairs.items; found = c.self.inside.found; bounds = c.self.inside.bounds.items } in
    (sound_behind old c.args.causes.now c.args.range c.work_for.new.net c.settle_by.new.found c.deref_mut.result.now c.settle_by.new.bounds _ c.settle_by.result
    c.self.inside.checker.room c.settle_by.new.checker.room c.self.invariant c.in_ok-work.ensures.set c.in_ok-work.ensures.made.is_net c.settle_by.ensures.finding c.settle_by.ensures.settled
    c.settle_by.ensures.room c.settle_by.ensures.places c.deref_mut.ensures.value
    (with_items_is c.self.inside.bounds c.settle_by.new.bounds (c.settle_by.auto.bounds ∙ ap length c.deref_mut.ensures.value ∙ sym c.self.inside.bounds.ok.0))).right
