use Rattle.std.proofs.Common.{refl}
use Rattle.event_graph.specs.Times.{time_of}
use Rattle.falling.proofs.Answering.{closed_answer, unbounded_answer}
use Rattle.falling.proofs.greatest.settled.Goals as goal

pub returns-then-not-is_far-clause-answers : goal.returns-then-not-is_far-clause-answers
returns-then-not-is_far-clause-answers c from turns lines in_from has =
    rw c.closed_at.ensures (closed_answer c.args.net.now from c.args.to turns lines c.args.values.now (time_of c.args.values.now c.args.to) c.events.ensures.net c.requires.plain in_from c.requires.to has refl
    (rw c.requires.limits.far_is at (c.if-not-is_far.ensures.near refl)))

pub returns-clause-answers : goal.returns-clause-answers
returns-clause-answers c from turns lines in_from has =
    unbounded_answer c.args.net.now from c.args.to turns lines c.args.values.now c.args.limits.width c.gap_level-level.result.value c.mark_above.new.ray c.events.ensures.net
    c.requires.plain in_from c.requires.to has c.requires.limits.width_is (rw c.requires.limits.far_is at (c.if-not-is_far.ensures.far refl)) c.gap_level-level.ensures.gap
    c.gap_level-level.ensures.low c.gap_level-level.ensures.high c.mark_above.ensures
