use Rattle.std.proofs.Common.{subst, sym}
use Rattle.moves.specs.Step.{IsMoveBy}
use Rattle.spans.proofs.Ways.{inside_past, last_move, next_move, on_next, past_through}
use Rattle.spans.proofs.reach.tried_in.Goals as goal

pub value_on-requires-clause-from : goal.value_on-requires-clause-from
value_on-requires-clause-from c =
    subst IsMoveBy (sym c.next_of-first.ensures.next)
    (next_move c.args.direction c.args.gap.has.by c.args.gap.lacks.by c.requires.has c.requires.lacks
    (past_through c.args.direction c.args.gap.has.by _ c.args.gap.lacks.by (on_next c.args.direction c.args.gap.has.by) c.requires.apart))

pub value_on-requires-clause-goal : goal.value_on-requires-clause-goal
value_on-requires-clause-goal c =
    last_move c.args.direction c.args.gap.has.by c.last_before-last.result.by c.args.gap.lacks.by c.requires.has c.requires.lacks c.last_before-last.ensures.next c.requires.apart

pub returns-clause-above : goal.returns-clause-above
returns-clause-above c =
    (inside_past c.args.direction c.args.gap.has.by c.next_of-first.result.by c.value_on.result.by c.last_before-last.result.by c.args.gap.lacks.by c.next_of-first.ensures.next c.last_before-last.ensures.next
    c.value_on.ensures.before c.value_on.ensures.within).0

pub returns-clause-below : goal.returns-clause-below
returns-clause-below c =
    (inside_past c.args.direction c.args.gap.has.by c.next_of-first.result.by c.value_on.result.by c.last_before-last.result.by c.args.gap.lacks.by c.next_of-first.ensures.next c.last_before-last.ensures.next
    c.value_on.ensures.before c.value_on.ensures.within).1
