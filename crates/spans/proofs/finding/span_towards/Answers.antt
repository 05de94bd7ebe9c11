use Rattle.std.proofs.Common.{pos}
use Rattle.spans.proofs.Near.{start_between}
use Rattle.spans.proofs.Reaching.{own_reached, reached_between}
use Rattle.spans.proofs.Ways.{on_through}
use Rattle.spans.proofs.finding.span_towards.Goals as goal

pub try_value-requires-clause-at : goal.try_value-requires-clause-at
try_value-requires-clause-at c =
    reached_between c.args.sought.now c.args.direction (pos 0) c.value_on-at.result.by c.last_start-goal.result.by (own_reached c.args.sought.now c.requires.sought)
    c.last_start-goal.ensures.goal.reached
    (on_through c.args.direction (pos 0) c.loop-turn.at.by c.value_on-at.result.by c.loop-turn.invariant.way.before c.value_on-at.ensures.before) c.value_on-at.ensures.within

pub try_value-requires-clause-start : goal.try_value-requires-clause-start
try_value-requires-clause-start c =
    start_between c.args.direction c.value_on-at.result.by c.last_start-goal.result.by
    (on_through c.args.direction (pos 0) c.loop-turn.at.by c.value_on-at.result.by c.loop-turn.invariant.way.before c.value_on-at.ensures.before) c.value_on-at.ensures.within
    c.last_start-goal.ensures.goal.start
