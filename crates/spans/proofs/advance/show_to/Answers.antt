use Rattle.std.proofs.Common.{refl, sym, arith}
use Rattle.spans.proofs.Showing.{stretch_next, stretch_start, stretch_whole}
use Rattle.spans.proofs.Ways.{past_from}
use Rattle.spans.proofs.advance.show_to.Goals as goal

pub loop-turn-init : goal.loop-turn-init
loop-turn-init c = record {
  stretch = stretch_start c.args.sought.now c.args.aim c.args.direction c.args.from.by c.args.goal.by c.requires.from c.requires.ahead;
  turns = record { each = refl; left = omega arith };
}

pub stretch_on-requires-clause-past : goal.stretch_on-requires-clause-past
stretch_on-requires-clause-past c =
    past_from c.args.direction c.loop-turn.stretch.done.by c.args.goal.by c.loop-turn.invariant.stretch.within
    (λ same. let is = c.is_same.ensures.1 (sym same) in absurd (cc (is, c.if-is_same.false)))

pub returns-then-is_same-clause-advance : goal.returns-then-is_same-clause-advance
returns-then-is_same-clause-advance c =
    stretch_whole c.args.sought.now c.args.aim c.args.direction c.args.from.by c.args.goal.by c.loop-turn.stretch.done.by c.loop-turn._turn (c.is_same.ensures.0 c.if-is_same.true)
    c.loop-turn.invariant.stretch

pub loop-turn-preserved : goal.loop-turn-preserved
loop-turn-preserved c = record {
  stretch = stretch_next c.args.sought.now c.args.aim c.args.direction c.args.from.by c.args.goal.by c.loop-turn.stretch.done.by c.loop-turn._turn c.in-On.next c.requires.goal
      c.loop-turn.invariant.stretch
      (rw c.in-On.is at c.in_ok-next.ensures.found);
  turns = omega arith;
}

pub returns-in-Stops-clause-advance : goal.returns-in-Stops-clause-advance
returns-in-Stops-clause-advance c =
    let h = rw c.in-Stops.is at c.in_ok-next.ensures.found in
    let past = past_from c.args.direction c.loop-turn.stretch.done.by c.args.goal.by c.loop-turn.invariant.stretch.within
    (λ same. let is = c.is_same.ensures.1 (sym same) in absurd (cc (is, c.if-is_same.false))) in
    ((c.loop-turn.invariant.stretch.shown, h.0, h.1), past)
