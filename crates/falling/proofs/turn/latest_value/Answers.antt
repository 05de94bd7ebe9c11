use Rattle.std.proofs.Common.{arith}
use Rattle.falling.proofs.Tried.{if_none_then, latest_value_of, next_of, open_of}
use Rattle.falling.proofs.turn.latest_value.Goals as goal

pub returns-in_err-due-clause-none : goal.returns-in_err-due-clause-none
returns-in_err-due-clause-none c =
    if_none_then _ _ (open_of c.args.net.now c.args.values.now c.args.number 0 c.cause_count-count.ensures.first (rw c.in_err-due.was at c.high_of.ensures))

pub returns-in_err-other-clause-none : goal.returns-in_err-other-clause-none
returns-in_err-other-clause-none c =
    if_none_then _ _ (open_of c.args.net.now c.args.values.now c.args.number c.loop-cause.cause (c.cause_count-count.ensures.each c.loop-cause.cause (omega arith))
    (rw c.in_err-other.was at c.high_of-in-loop-cause.ensures))

pub loop-cause-preserved : goal.loop-cause-preserved
loop-cause-preserved c =
    next_of c.args.net.now c.args.values.now c.args.number c.loop-cause.cause c.loop-cause.due.value c.in_ok-other.other.value c.or_greater-due.result.value
    (c.cause_count-count.ensures.each c.loop-cause.cause (omega arith)) (rw c.in_ok-other.was at c.high_of-in-loop-cause.ensures)
    c.or_greater-due.ensures.first c.or_greater-due.ensures.second c.or_greater-due.ensures.either c.loop-cause.invariant

pub returns-clause-value : goal.returns-clause-value
returns-clause-value c =
    latest_value_of c.args.net.now c.args.values.now c.args.number c.cause_count-count.result c.loop-cause.cause c.loop-cause.due.value c.requires.look.is_net c.requires.kind
    c.cause_count-count.ensures.count (omega arith) c.loop-cause.invariant
