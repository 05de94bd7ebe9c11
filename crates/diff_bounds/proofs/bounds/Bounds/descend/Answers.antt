use Rattle.std.proofs.Common.{◌≡◌, ◌∙◌, ◌<◌, ap, arith, false, is_none, length, refl, rules, subst, sym, take, true}
use Rattle.std.specs.Vec.{with_items}
use Rattle.std.proofs.lemmas.List.{with_items_is}
use Rattle.trail.specs.Stack.{TrailView}
use Rattle.diff_bounds.specs.Current.{HasNoTimes, IsLoop, with_choice}
use Rattle.diff_bounds.specs.Settled.{zeros}
use Rattle.diff_bounds.specs.Standing.{BoundsView, Stands, chosen_of, standing_in}
use Rattle.diff_bounds.specs.Step.Poised.{AreLow, IsAdded, feasible_run}
use Rattle.diff_bounds.proofs.Descending.{arcs_room, choice_loop, choice_added, choice_stands, choice_times, choice_walk, chosen_stack, added_feasible, edges_room, has_added, none_there, push_stands, some_there, sunk_settled, sunk_stack, stack_is, stands_times, unsourced_settled, uppers_added}
use Rattle.diff_bounds.proofs.Standings.{stands_settled}
use Rattle.diff_bounds.proofs.bounds.Bounds.descend.Goals as goal
use Rattle.diff_bounds.proofs.bounds.Bounds.descend.Goals.{After-push_level, After-add_edge}

-- the fields stand
inside_stands : (c : After-push_level) → Stands c.args.net.now (standing_in c.self.inside)
inside_stands c = let P : BoundsView → Type 0 = λ b. Stands c.args.net.now b in subst P (sym c.self.view_is) c.requires.stands

room : (c : After-push_level) → length c.self.inside.trail.below < c.self.inside.trail.levels
room c = let P : BoundsView → Type 0 = λ b. length b.trail.below < b.trail.levels in subst P (sym c.self.view_is) c.requires.levels

pub returns-in_default-clause-stands : goal.returns-in_default-clause-stands
returns-in_default-clause-stands c =
    let at = (goal.at.returns-in_default-clause-stands c).After-push_level in
    push_stands c.args.net.now (standing_in c.self.inside) c.push_level.new.self (inside_stands at) c.push_level.ensures

pub returns-in_default-clause-no_times : goal.returns-in_default-clause-no_times
returns-in_default-clause-no_times c =
    (λ same. absurd (cc same), λ none. absurd (stands_times c.args.net.now c.args.self.now c.args.choice c.requires.stands (sym c.in_default.ensures.edge) none))

pub add_edge-requires : goal.add_edge-requires
add_edge-requires c =
    let at = (goal.at.add_edge-requires c).After-push_level in
    edges_room c.args.net.now (standing_in c.self.inside) c.push_level.new.self (inside_stands at) c.push_level.ensures (room at)

pub push-requires-clause-room : goal.push-requires-clause-room
push-requires-clause-room c =
    let at = (goal.at.push-requires-clause-room c).After-push_level in
    let few = arcs_room c.args.net.now (standing_in c.self.inside) (inside_stands at) (room at) in
    omega (arith, few, c.self.invariant.chosen)

-- the stack with the choice
with_choice_is : (c : After-add_edge) → c.add_edge.new.self ≡ chosen_stack (standing_in c.self.inside) c.args.choice
with_choice_is c = stack_is (standing_in c.self.inside) c.push_level.new.self c.add_edge.new.self c.args.choice c.push_level.ensures c.add_edge.ensures

pub add_to_feasible-closing-requires-clause-added : goal.add_to_feasible-closing-requires-clause-added
add_to_feasible-closing-requires-clause-added c =
    let at = (goal.at.add_to_feasible-closing-requires-clause-added c).After-add_edge in
    let down = (goal.at.add_to_feasible-closing-requires-clause-added c).After-push_level in
    let b : BoundsView = standing_in c.self.inside in
    let stands = inside_stands down in
    let P : TrailView → Type 0 = λ st. IsAdded c.args.net.now c.self.inside.out c.push.new.self.arcs (feasible_run c.args.net.now c.in-Some.edge.from 0) (record { name = c.args.choice; edge = c.in-Some.edge }) zeros st c.self.inside.pending in
    subst P (sym (with_choice_is at))
    (rw c.push.ensures
    (choice_added c.args.net.now b c.args.choice c.in-Some.edge c.self.inside.pending stands (sym c.in-Some.ensures.edge) stands.made.waiting))

pub add_to_feasible-closing-requires-clause-low : goal.add_to_feasible-closing-requires-clause-low
add_to_feasible-closing-requires-clause-low c =
    let at = (goal.at.add_to_feasible-closing-requires-clause-low c).After-add_edge in
    let down = (goal.at.add_to_feasible-closing-requires-clause-low c).After-push_level in
    let P : TrailView → Type 0 = λ st. AreLow c.args.net.now.events st.current.stamps in
    subst P (sym (with_choice_is at)) (stands_settled c.args.net.now (standing_in c.self.inside) (inside_stands down)).feasible.low

pub returns-in-Some-closing-clause-no_times : goal.returns-in-Some-closing-clause-no_times
returns-in-Some-closing-clause-no_times c =
    let at = (goal.at.returns-in-Some-closing-clause-no_times c).After-add_edge in
    let done = c.in-Some-closing.ensures in
    let b : BoundsView = standing_in c.self.inside in
    let added = has_added c.args.net.now b c.args.choice c.in-Some.edge c.add_edge.new.self c.add_to_feasible-closing.new.trail (sym c.in-Some.ensures.edge) (with_choice_is at) done.stack done.ran in
    let P : BoundsView → Type 0 = λ x. HasNoTimes c.args.net.now (with_choice c.args.net.now (chosen_of x) c.args.choice) in
    (λ _. subst P c.self.view_is (choice_loop c.args.net.now b c.args.choice c.in-Some.edge c.add_to_feasible-closing.new.trail c.in-Some-closing.last added.is added.stack done.loops), λ _. refl)

pub returns-in-Some-closing-clause-walk : goal.returns-in-Some-closing-clause-walk
returns-in-Some-closing-clause-walk c =
    let at = (goal.at.returns-in-Some-closing-clause-walk c).After-add_edge in
    let done = c.in-Some-closing.ensures in
    let b : BoundsView = standing_in c.self.inside in
    let added = has_added c.args.net.now b c.args.choice c.in-Some.edge c.add_edge.new.self c.add_to_feasible-closing.new.trail (sym c.in-Some.ensures.edge) (with_choice_is at) done.stack done.ran in
    let long = c.loop_into-self-inside.auto.walk ∙ ap length c.deref_mut.ensures.value ∙ sym c.self.inside.walk.ok.0 in
    let written = ap (take c.loop_into-self-inside.result) (with_items_is c.self.inside.walk c.loop_into-self-inside.new.walk long) ∙ c.loop_into-self-inside.ensures.names done.loops in
    let P : BoundsView → Type 0 = λ x. IsLoop c.args.net.now (with_choice c.args.net.now (chosen_of x) c.args.choice)
    (take c.loop_into-self-inside.result (with_items c.self.inside.walk c.loop_into-self-inside.new.walk).items) in
    λ _. subst P c.self.view_is (choice_walk c.args.net.now b c.args.choice c.in-Some.edge c.add_to_feasible-closing.new.trail c.in-Some-closing.last _ added.is added.stack done.loops written)

pub returns-then-is_none-clause-stands : goal.returns-then-is_none-clause-stands
returns-then-is_none-clause-stands c =
    let at = (goal.at.returns-then-is_none-clause-stands c).After-add_edge in
    let down = (goal.at.returns-then-is_none-clause-stands c).After-push_level in
    let done = c.in_default-closing.ensures in
    let b : BoundsView = standing_in c.self.inside in
    let stands = inside_stands down in
    let added = has_added c.args.net.now b c.args.choice c.in-Some.edge c.add_edge.new.self c.add_to_feasible-closing.new.trail (sym c.in-Some.ensures.edge) (with_choice_is at) done.stack done.ran in
    let from : is_none c.self.inside.source ≡ true = search rules in
    let settled = unsourced_settled c.args.net.now b c.args.choice c.in-Some.edge c.add_to_feasible-closing.new.trail.current.stamps stands (none_there c.self.inside.source from) added.ran
    (added_feasible c.args.net.now b c.args.choice c.add_edge.new.self c.add_to_feasible-closing.new.trail.current.stamps (with_choice_is at) done.feasible) in
    rw c.push.ensures
    (choice_stands c.args.net.now b c.args.choice c.in-Some.edge c.add_to_feasible-closing.new.trail (length c.add_to_feasible-closing.new.pending.marks) stands added.is done.marks added.stack settled)

pub returns-then-is_none-clause-no_times : goal.returns-then-is_none-clause-no_times
returns-then-is_none-clause-no_times c =
    let at = (goal.at.returns-then-is_none-clause-no_times c).After-add_edge in
    let down = (goal.at.returns-then-is_none-clause-no_times c).After-push_level in
    let b : BoundsView = standing_in c.self.inside in
    let feasible = added_feasible c.args.net.now b c.args.choice c.add_edge.new.self c.add_to_feasible-closing.new.trail.current.stamps (with_choice_is at) c.in_default-closing.ensures.feasible in
    let P : BoundsView → Type 0 = λ x. HasNoTimes c.args.net.now (with_choice c.args.net.now (chosen_of x) c.args.choice) → ⊥ in (
      λ same. absurd (cc same),
      λ none. absurd (subst P c.self.view_is (choice_times c.args.net.now b c.args.choice c.in-Some.edge c.add_to_feasible-closing.new.trail.current.stamps (inside_stands down) (sym c.in-Some.ensures.edge) feasible) none),
    )

pub add_to_uppers-requires-clause-added : goal.add_to_uppers-requires-clause-added
add_to_uppers-requires-clause-added c =
    let at = (goal.at.add_to_uppers-requires-clause-added c).After-add_edge in
    let down = (goal.at.add_to_uppers-requires-clause-added c).After-push_level in
    let done = c.in_default-closing.ensures in
    let b : BoundsView = standing_in c.self.inside in
    let stands = inside_stands down in
    let added = has_added c.args.net.now b c.args.choice c.in-Some.edge c.add_edge.new.self c.add_to_feasible-closing.new.trail (sym c.in-Some.ensures.edge) (with_choice_is at) done.stack done.ran in
    let from : is_none c.self.inside.source ≡ false = search rules in
    let source = some_there c.self.inside.source from in
    let ready = uppers_added c.args.net.now b c.args.choice c.in-Some.edge source.0 c.add_to_feasible-closing.new.trail c.add_to_feasible-closing.new.pending stands added.is source.1 (done.marks ∙ stands.made.waiting) added.stack added.ran in
    rw c.push.ensures (source.0, ready.0, ready.1)

pub returns-clause-stands : goal.returns-clause-stands
returns-clause-stands c =
    let at = (goal.at.returns-clause-stands c).After-add_edge in
    let down = (goal.at.returns-clause-stands c).After-push_level in
    let done = c.in_default-closing.ensures in
    let b : BoundsView = standing_in c.self.inside in
    let stands = inside_stands down in
    let added = has_added c.args.net.now b c.args.choice c.in-Some.edge c.add_edge.new.self c.add_to_feasible-closing.new.trail (sym c.in-Some.ensures.edge) (with_choice_is at) done.stack done.ran in
    let from : is_none c.self.inside.source ≡ false = search rules in
    let source = some_there c.self.inside.source from in
    let ready = uppers_added c.args.net.now b c.args.choice c.in-Some.edge source.0 c.add_to_feasible-closing.new.trail c.add_to_feasible-closing.new.pending stands added.is source.1 (done.marks ∙ stands.made.waiting) added.stack added.ran in
    let settles = rw c.push.ensures at c.add_to_uppers.ensures.settled in
    let settled = sunk_settled c.args.net.now b c.args.choice source.0 c.add_to_feasible-closing.new.trail c.add_to_uppers.new.trail.current.stamps source.1 added.stack (settles source.0 ready.0 ready.1) in
    rw c.push.ensures
    (choice_stands c.args.net.now b c.args.choice c.in-Some.edge c.add_to_uppers.new.trail (length c.add_to_uppers.new.pending.marks) stands added.is (c.add_to_uppers.ensures.marks ∙ done.marks)
    (sunk_stack b c.args.choice c.add_to_feasible-closing.new.trail c.add_to_uppers.new.trail added.stack c.add_to_uppers.ensures.stack) settled)

pub returns-clause-no_times : goal.returns-clause-no_times
returns-clause-no_times c =
    let at = (goal.at.returns-clause-no_times c).After-add_edge in
    let down = (goal.at.returns-clause-no_times c).After-push_level in
    let b : BoundsView = standing_in c.self.inside in
    let feasible = added_feasible c.args.net.now b c.args.choice c.add_edge.new.self c.add_to_feasible-closing.new.trail.current.stamps (with_choice_is at) c.in_default-closing.ensures.feasible in
    let P : BoundsView → Type 0 = λ x. HasNoTimes c.args.net.now (with_choice c.args.net.now (chosen_of x) c.args.choice) → ⊥ in (
      λ same. absurd (cc same),
      λ none. absurd (subst P c.self.view_is (choice_times c.args.net.now b c.args.choice c.in-Some.edge c.add_to_feasible-closing.new.trail.current.stamps (inside_stands down) (sym c.in-Some.ensures.edge) feasible) none),
    )
