use Rattle.std.proofs.Common.{◌≡◌, refl, sym, ap, ◌∙◌, subst, arith}
use Rattle.std.specs.Vec.{with_item}
use Rattle.trail.specs.declared.trail.Trail.TheInside.{Inside}
use Rattle.trail.specs.declared.undo.Slot.{Slot}
use Rattle.trail.specs.Stack.{TrailView, with_stamp}
use Rattle.trail.specs.Step.Inside.{stack_in, IsSoundTrail}
use Rattle.trail.proofs.Steps.{slot_in, depth_in, IsSoundTrail-slot, stack_in-slot, IsSoundTrail-saved, stack_in-saved, room-saved_slot}
use Rattle.trail.proofs.trail.Trail.set_label.Goals as goal
use Rattle.trail.proofs.trail.Trail.set_label.Goals.{then-was-level, else-was-level}

pub push_reserved-requires : goal.push_reserved-requires
push_reserved-requires c =
    let t = c.self.inside in
    let there = slot_in t c.args.self.now c.self.view_is c.args.slot c.requires in
    let depth = depth_in t c.args.self.now c.self.view_is c.depth-level.result c.depth-level.ensures.count in
    room-saved_slot t c.self.invariant c.args.slot c.index-was.result.now there c.index-was.ensures (omega (arith, depth))

pub invariant_of-self : goal.invariant_of-self
invariant_of-self c =
    let t = c.self.inside in
    let x : Slot = record { stamp = c.args.stamp; level = c.depth-level.result } in
    let there = slot_in t c.args.self.now c.self.view_is c.args.slot c.requires in
    let depth = depth_in t c.args.self.now c.self.view_is c.depth-level.result c.depth-level.ensures.count in
    let slots = with_item t.slots c.args.slot x in
    let P = λ (s : Inside). IsSoundTrail (record s { slots = with_item s.slots c.args.slot x }) in
    elim c.if-was-level.branch [
      | then-was-level w ↦ subst P (sym w.self-inside-is) (IsSoundTrail-saved t c.self.invariant slots c.args.slot c.index-was.result.now x refl there c.index-was.ensures depth w.push_reserved.new.self w.push_reserved.ensures.items (omega (arith, depth)) w.push_reserved.ensures.capacity)
      | else-was-level w ↦ subst P (sym w.self-inside-is) (IsSoundTrail-slot t c.self.invariant slots c.args.slot c.index-was.result.now x refl there c.index-was.ensures depth (omega (arith, depth)))
    ]

pub returns : goal.returns
returns c =
    let t = c.self.inside in
    let x : Slot = record { stamp = c.args.stamp; level = c.depth-level.result } in
    let there = slot_in t c.args.self.now c.self.view_is c.args.slot c.requires in
    let depth = depth_in t c.args.self.now c.self.view_is c.depth-level.result c.depth-level.ensures.count in
    let slots = with_item t.slots c.args.slot x in
    let after = λ (g : TrailView). record g { current = with_stamp g.current c.args.slot c.args.stamp } in
    let P = λ (s : Inside). stack_in (record s { slots = with_item s.slots c.args.slot x }) ≡ after (stack_in t) in
    elim c.if-was-level.branch [
      | then-was-level w ↦ subst P (sym w.self-inside-is) (stack_in-saved t c.self.invariant slots c.args.slot c.index-was.result.now x refl there c.index-was.ensures depth w.push_reserved.new.self w.push_reserved.ensures.items (omega (arith, depth))) ∙ ap after c.self.view_is
      | else-was-level w ↦ subst P (sym w.self-inside-is) (stack_in-slot t c.self.invariant slots c.args.slot c.index-was.result.now x refl there c.index-was.ensures depth (omega (arith, depth))) ∙ ap after c.self.view_is
    ]
