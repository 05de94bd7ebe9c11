use Rattle.std.proofs.Common.{◌≤◌, length, All, ◌∙◌, ap, sym, subst, arith}
use Rattle.std.proofs.lemmas.List.{with_items_is}
use Rattle.event_graph.specs.Network.{Net}
use Rattle.whatif.specs.declared.session.TheConstants.{MAX_PAIRS}
use Rattle.whatif.specs.Session.{IsPairOf}
use Rattle.whatif.specs.Step.Bounds.{IsPairIn}
use Rattle.whatif.proofs.Sessions.{attains_begun, count_bounds, pairs_in, sound_begun}
use Rattle.whatif.proofs.session.Session.new.Goals as goal

pub begin-requires-clause-count : goal.begin-requires-clause-count
begin-requires-clause-count c =
    let count = count_bounds c.args.pairs.now c.in_ok-bounds.bounds.items c.in_ok-bounds.ensures.pairs in
    let few : length c.args.pairs.now ≤ MAX_PAIRS = c.if-pairs-gt-MAX_PAIRS.false in
    omega (arith, ap length c.deref_mut.ensures.value, count, few)

pub begin-requires-clause-pairs : goal.begin-requires-clause-pairs
begin-requires-clause-pairs c =
    subst (All (IsPairIn c.in_ok-net.net.events)) (sym c.deref_mut.ensures.value)
    (pairs_in c.in_ok-net.net.events c.args.pairs.now c.in_ok-bounds.bounds.items c.in_ok-bounds.ensures.pairs
    (subst (λ (n : Net). All (IsPairOf n.events) c.args.pairs.now) (sym c.in_ok-net.ensures) c.requires.within))

pub invariant_of-result : goal.invariant_of-result
invariant_of-result c =
    sound_begun c.in_ok-net.net c.args.net.now c.args.budget c.args.pairs.now c.in_ok-pairs.pairs.items c.in_ok-found.found c.in_ok-bounds.bounds.items c.deref_mut.result.now
    c.begin.new.bounds _ c.begin.new.checker.room c.in_ok-checker.checker.room c.in_ok-net.ensures c.in_ok-pairs.ensures.items c.in_ok-bounds.ensures.pairs c.deref_mut.ensures.value
    (with_items_is c.in_ok-bounds.bounds c.begin.new.bounds (c.begin.auto.bounds ∙ ap length c.deref_mut.ensures.value ∙ sym c.in_ok-bounds.bounds.ok.0))
    c.requires.within c.if-pairs-gt-MAX_PAIRS.false c.in_ok-found.ensures.net c.in_ok-found.ensures.finding c.in_ok-found.ensures.settled c.in_ok-found.ensures.places
    c.in_ok-found.ensures.room c.in_ok-checker.ensures.room c.requires.budget

pub returns-clause-right : goal.returns-clause-right
returns-clause-right c =
    (sound_begun c.in_ok-net.net c.args.net.now c.args.budget c.args.pairs.now c.in_ok-pairs.pairs.items c.in_ok-found.found c.in_ok-bounds.bounds.items c.deref_mut.result.now
    c.begin.new.bounds _ c.begin.new.checker.room c.in_ok-checker.checker.room c.in_ok-net.ensures c.in_ok-pairs.ensures.items c.in_ok-bounds.ensures.pairs c.deref_mut.ensures.value
    (with_items_is c.in_ok-bounds.bounds c.begin.new.bounds (c.begin.auto.bounds ∙ ap length c.deref_mut.ensures.value ∙ sym c.in_ok-bounds.bounds.ok.0))
    c.requires.within c.if-pairs-gt-MAX_PAIRS.false c.in_ok-found.ensures.net c.in_ok-found.ensures.finding c.in_ok-found.ensures.settled c.in_ok-found.ensures.places
    c.in_ok-found.ensures.room c.in_ok-checker.ensures.room c.requires.budget).right

pub returns-clause-least : goal.returns-clause-least
returns-clause-least c =
    attains_begun c.in_ok-net.net c.args.budget c.in_ok-pairs.pairs.items c.in_ok-found.found c.deref_mut.result.now c.begin.new.bounds _
    (with_items_is c.in_ok-bounds.bounds c.begin.new.bounds (c.begin.auto.bounds ∙ ap length c.deref_mut.ensures.value ∙ sym c.in_ok-bounds.bounds.ok.0))
    c.in_ok-found.ensures.settled
