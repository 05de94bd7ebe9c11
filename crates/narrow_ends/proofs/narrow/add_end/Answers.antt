use Rattle.std.proofs.Common.{◌≡◌, ◌<◌, ◌≤◌, length, Option, ℕ, Some, None, ◌∙◌, sym, subst, refl}
use Rattle.std.specs.Prelude.{IfSome}
use Rattle.std.proofs.lemmas.List.Elements.{All-push, All-set}
use Rattle.event_graph.specs.Edges.{cause_choices, edge}
use Rattle.event_graph.specs.Network.{Net}
use Rattle.narrow_ends.specs.declared.end.RangeEnd.{RangeEnd}
use Rattle.narrow_ends.specs.Narrow.{IsEndSettled}
use Rattle.narrow_ends.specs.Step.{AreEndsSettled, IsLookedOn, IsSearched}
use Rattle.narrow_ends.proofs.Standing.{stand_known, stand_new}
use Rattle.narrow_ends.proofs.narrow.add_end.Goals as goal

pub returns-in_ok-end-in-Some-clause-stand : goal.returns-in_ok-end-in-Some-clause-stand
returns-in_ok-end-in-Some-clause-stand c = λ names stand.
    let drawn = c.args.drawn.now in
    let e = c.edge_of-edge.result in
    let there : edge drawn.net c.args.name ≡ Some e = subst (λ (n : Net). edge n c.args.name ≡ Some e) c.network-net.ensures.network c.edge_of-edge.ensures.edge in
    let on : IsLookedOn drawn.net e c.index.result.now c.in_ok-end-in-Some.end =
    subst (λ (n : Net). IsLookedOn n e c.index.result.now c.in_ok-end-in-Some.end) c.network-net.ensures.network c.in_ok-end-in-Some.ensures.found in
    stand_known drawn names c.args.name c.source_of-source.result c.args.places.now c.args.ends.now.items e stand c.source_of-source.ensures.source there c.in-Some.place c.index.result.now
    c.in_ok-end-in-Some.end (sym c.in-Some.ensures) c.index.ensures on

pub returns-in_ok-end-in-Some-clause-settles : goal.returns-in_ok-end-in-Some-clause-settles
returns-in_ok-end-in-Some-clause-settles c = λ enough some settled.
    let ends = c.args.ends.now.items in
    let within : c.in-Some.place < length ends =
    subst (λ (o : Option ℕ). IfSome o (λ p. p < length ends)) (sym c.in-Some.ensures) (c.requires.places c.source_of-source.result) in
    let before : IsEndSettled c.index.result.now.found = subst (λ (f : RangeEnd). IsEndSettled f.found) (sym c.index.ensures) (settled c.in-Some.place c.index.result.now within) in
    All-set (λ (f : RangeEnd). IsEndSettled f.found) ends c.in-Some.place c.in_ok-end-in-Some.end
    (c.in_ok-end-in-Some.ensures.settles (subst (λ (n : Net). cause_choices n.constraints ≤ c.args.extremes.now.budget) (sym c.network-net.ensures.network) enough) some before) settled

pub returns-in_ok-push-in-None-clause-stand : goal.returns-in_ok-push-in-None-clause-stand
returns-in_ok-push-in-None-clause-stand c = λ names stand.
    let drawn = c.args.drawn.now in
    let e = c.edge_of-edge.result in
    let end = c.in_ok-end-in-None.end in
    let there : edge drawn.net c.args.name ≡ Some e = subst (λ (n : Net). edge n c.args.name ≡ Some e) c.network-net.ensures.network c.edge_of-edge.ensures.edge in
    let searched : IsSearched drawn.net e e.weight None end.found =
    subst (λ (n : Net). IsSearched n e e.weight None end.found) c.network-net.ensures.network c.in_ok-end-in-None.ensures.found in
    stand_new drawn names c.args.name c.source_of-source.result c.args.places.now c.args.ends.now.items e stand c.source_of-source.ensures.source there c.put_place.new.places end.found
    (sym c.in-None.ensures) (λ other. rw (c.len.ensures ∙ c.args.ends.now.ok.0) at (c.in_ok-put_place-in-None.ensures other)) searched end c.push.new.self.items
    c.in_ok-end-in-None.ensures.name c.in_ok-end-in-None.ensures.edge refl c.in_ok-push-in-None.ensures.items

pub returns-in_ok-push-in-None-clause-settles : goal.returns-in_ok-push-in-None-clause-settles
returns-in_ok-push-in-None-clause-settles c = λ enough some settled.
    let end = c.in_ok-end-in-None.end in
    let last : IsEndSettled end.found =
    c.in_ok-end-in-None.ensures.settles (subst (λ (n : Net). cause_choices n.constraints ≤ c.args.extremes.now.budget) (sym c.network-net.ensures.network) enough) some in
    subst AreEndsSettled (sym c.in_ok-push-in-None.ensures.items) (All-push (λ (f : RangeEnd). IsEndSettled f.found) c.args.ends.now.items end settled last)
