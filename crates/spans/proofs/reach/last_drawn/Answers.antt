use Rattle.std.proofs.Common.{ℤ, sym, subst, ◌∙◌}
use Rattle.moves.specs.Step.{lent}
use Rattle.spans.specs.Step.{CanShift}
use Rattle.spans.specs.declared.reach.DrawnGap.{DrawnGap}
use Rattle.spans.proofs.Reaching.{gap_start, has_move, lacks_move, last_far, last_near}
use Rattle.spans.proofs.Ways.{past_next}
use Rattle.spans.proofs.reach.last_drawn.Goals as goal

pub returns-then-branch : goal.returns-then-branch
returns-then-branch c =
    last_far c.args.drawn.now (lent c.args.numbers.now) c.args.direction c.read_drawn.ensures.net c.read_rows.ensures.ends
    (subst (λ (v : ℤ). CanShift c.args.drawn.now (lent c.args.numbers.now) v) c.farthest-end.ensures.farthest (c.in_ok-can_be_drawn.ensures.can.0 c.if-branch.true)) c.farthest-end.result.by
    c.farthest-end.ensures.farthest

pub loop-alloc-init : goal.loop-alloc-init
loop-alloc-init c =
    let gap : DrawnGap = record { has = c.drawn_value.result; lacks = c.farthest-end.result } in
    gap_start c.args.drawn.now (lent c.args.numbers.now) c.args.direction gap c.drawn_value.ensures c.farthest-end.ensures.farthest
    (λ can.
    let is = c.in_ok-can_be_drawn.ensures.can.1 (subst (λ (v : ℤ). CanShift c.args.drawn.now (lent c.args.numbers.now) v) (sym c.farthest-end.ensures.farthest) can) in cc)

pub next_of-requires : goal.next_of-requires
next_of-requires c = has_move c.args.drawn.now (lent c.args.numbers.now) c.args.direction c.loop-alloc.gap c.loop-alloc.invariant

pub tried_in-at-requires-clause-has : goal.tried_in-at-requires-clause-has
tried_in-at-requires-clause-has c = has_move c.args.drawn.now (lent c.args.numbers.now) c.args.direction c.loop-alloc.gap c.loop-alloc.invariant

pub tried_in-at-requires-clause-lacks : goal.tried_in-at-requires-clause-lacks
tried_in-at-requires-clause-lacks c = lacks_move c.args.drawn.now (lent c.args.numbers.now) c.args.direction c.loop-alloc.gap c.loop-alloc.invariant

pub tried_in-at-requires-clause-apart : goal.tried_in-at-requires-clause-apart
tried_in-at-requires-clause-apart c =
    past_next c.args.direction c.loop-alloc.gap.has.by c.loop-alloc.gap.lacks.by c.loop-alloc.invariant.apart
    (λ same. let is = c.is_same.ensures.1 (c.next_of.ensures.next ∙ sym same) in cc)

pub returns : goal.returns
returns c =
    last_near c.args.drawn.now (lent c.args.numbers.now) c.args.direction c.read_drawn.ensures.net c.read_rows.ensures.ends c.loop-alloc.gap c.next_of.result.by c.loop-alloc.invariant
    c.next_of.ensures.next (c.is_same.ensures.0 c.loop-alloc-test.false)
