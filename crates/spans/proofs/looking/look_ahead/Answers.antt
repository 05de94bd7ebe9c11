use Rattle.std.proofs.Common.{refl, arith}
use Rattle.spans.proofs.Looks.{look_next, look_start}
use Rattle.spans.proofs.Reaching.{reached_between}
use Rattle.spans.proofs.Ways.{on_through, past_from, past_through}
use Rattle.spans.proofs.looking.look_ahead.Goals as goal

pub loop-round-init : goal.loop-round-init
loop-round-init c = record { way = look_start c.args.direction c.args.from.by c.args.goal.by _ refl c.requires.ahead; turns = record { each = refl; left = omega arith } }

pub looked_at-requires-clause-past : goal.looked_at-requires-clause-past
looked_at-requires-clause-past c =
    past_through c.args.direction c.args.from.by c.loop-round.look.at.by c.value_on-next.result.by c.loop-round.invariant.way.before
    (past_from c.args.direction c.loop-round.look.at.by c.value_on-next.result.by c.value_on-next.ensures.before
    (λ same. let is = c.is_same.ensures.1 same in absurd (cc (is, c.if-is_same.false))))

pub looked_at-requires-clause-reached : goal.looked_at-requires-clause-reached
looked_at-requires-clause-reached c =
    let is = c.loop-round.invariant.way in
    reached_between c.args.sought.now c.args.direction c.args.from.by c.value_on-next.result.by c.args.goal.by c.requires.from c.requires.goal
    (on_through c.args.direction c.args.from.by c.loop-round.look.at.by c.value_on-next.result.by is.before c.value_on-next.ensures.before) c.value_on-next.ensures.within

pub loop-round-preserved : goal.loop-round-preserved
loop-round-preserved c = record {
  way = look_next c.args.direction c.args.from.by c.args.goal.by c.loop-round.look.at.by c.value_on-next.result.by c.in-On.further.at.by c.loop-round.invariant.way
      c.value_on-next.ensures.before
      c.value_on-next.ensures.within (rw c.in-On.is at c.in_ok-further.ensures.found);
  turns = omega arith;
}

pub returns-in-Found-clause-ahead : goal.returns-in-Found-clause-ahead
returns-in-Found-clause-ahead c = rw c.in-Found.is at c.in_ok-further.ensures.found
