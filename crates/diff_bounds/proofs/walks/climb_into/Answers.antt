use Rattle.std.proofs.Common.{◌≡◌, ◌∙◌, ◌+◌, ◌<◌, ap, arith, length, length-set, nat_eq, sym}
use Rattle.std.proofs.lemmas.Bool.{eqb-false, eqb-true, not-false, not-true}
use Rattle.std.proofs.lemmas.Option.{get_or_from_slice_get, none-some, same_Some}
use Rattle.event_graph.specs.Edges.{edge}
use Rattle.trail.specs.declared.stamp.Stamp.{Stamp}
use Rattle.trail.specs.Stack.{empty_stamp}
use Rattle.diff_bounds.specs.Labels.{parents_from}
use Rattle.diff_bounds.proofs.Climbing.{nothing_left, one_more, room_left, there_is}
use Rattle.diff_bounds.proofs.walks.climb_into.Goals as goal
use Rattle.diff_bounds.proofs.walks.climb_into.Goals.{After-stamp}

off_top : (c : After-stamp) → c.loop-to.at.0 ≡ c.args.to.0 → ⊥
off_top c = eqb-false c.loop-to.at.0 c.args.to.0 (not-true (nat_eq c.loop-to.at.0 c.args.to.0) (sym c.loop-to-test.ensures))

parent_read : (c : After-stamp) → parents_from c.args.trail.now.current.stamps c.args.base c.loop-to.at.0 ≡ c.stamp.result.parent
parent_read c = ap (λ (x : Stamp). x.parent) (get_or_from_slice_get c.args.trail.now.current.stamps (c.args.base + c.loop-to.at.0) c.stamp.result empty_stamp c.stamp.ensures)

pub unreachable-requires : goal.unreachable-requires
unreachable-requires c =
    let at = (goal.at.unreachable-requires c).After-stamp in
    let one = c.requires.climb in
    let left = c.loop-to.invariant.rest one.0 one.1 one.2 in
    let there = there_is c.args.net.now _ one.0 c.args.from.0 c.args.to.0 c.loop-to.at.0 one.1 left.0 one.2 left.1 (off_top at) in
    none-some there.0 (sym c.in_default.is ∙ sym (parent_read at) ∙ there.2)

pub unreachable-requires-in_default-edge : goal.unreachable-requires-in_default-edge
unreachable-requires-in_default-edge c =
    let at = (goal.at.unreachable-requires-in_default-edge c).After-stamp in
    let one = c.requires.climb in
    let left = c.loop-to.invariant.rest one.0 one.1 one.2 in
    let there = there_is c.args.net.now _ one.0 c.args.from.0 c.args.to.0 c.loop-to.at.0 one.1 left.0 one.2 left.1 (off_top at) in
    let same : there.0 ≡ c.in-Some.name = same_Some there.0 c.in-Some.name (sym there.2 ∙ parent_read at ∙ c.in-Some.is) in
    none-some there.1 (sym c.in_default-edge.is ∙ c.edge.ensures.edge ∙ ap (edge c.args.net.now) (sym same) ∙ there.3)

pub loop-to-preserved : goal.loop-to-preserved
loop-to-preserved c =
    let at = (goal.at.loop-to-preserved c).After-stamp in
    let one = c.requires.climb in
    let first = c.loop-to.invariant.rest one.0 one.1 one.2 in
    let long : length c.loop-to.walk ≡ length c.args.walk.now = c.loop-to.auto.walk in
    let short : length one.1 < length c.loop-to.walk = omega (arith, one.3) in
    let room : c.loop-to.count < length c.loop-to.walk = room_left one.1 c.loop-to.walk first.0 c.loop-to.count first.2 short c.loop-to.invariant.room in
    record {
      within = c.in-Some-edge.ensures.from;
      room = simp length-set (omega arith);
      rest = λ parent names is.
          let left = c.loop-to.invariant.rest parent names is in
          one_more c.args.net.now (parents_from c.args.trail.now.current.stamps c.args.base) parent c.args.from.0 c.args.to.0 c.loop-to.at.0 names c.loop-to.walk left.0 c.loop-to.count c.in-Some.name c.in-Some-edge.edge is left.1 left.2
          (off_top at) (parent_read at ∙ c.in-Some.is) (sym c.in-Some-edge.ensures.edge) room;
    }

pub returns-clause-names : goal.returns-clause-names
returns-clause-names c =
    λ parent names is.
    let left = c.loop-to.invariant.rest parent names is in
    let same : c.loop-to.at.0 ≡ c.args.to.0 = eqb-true c.loop-to.at.0 c.args.to.0 (not-false (nat_eq c.loop-to.at.0 c.args.to.0) (sym c.loop-to-test.ensures)) in
    nothing_left c.args.net.now _ parent c.args.from.0 c.args.to.0 c.loop-to.at.0 names _ left.0 is left.1 left.2 same
