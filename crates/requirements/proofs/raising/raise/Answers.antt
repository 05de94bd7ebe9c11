use Rattle.std.proofs.Common.{arith}
use Rattle.requirements.proofs.Rising.{step_in, step_out, time_known}
use Rattle.requirements.proofs.raising.raise.Goals as goal
use Rattle.requirements.proofs.raising.raise.Goals.{then-is_in, else-is_in}

pub later-requires-clause-time : goal.later-requires-clause-time
later-requires-clause-time c = time_known _ _ _ _ c.loop-event.event c.requires.times c.loop-event.invariant (omega arith)

pub loop-event-preserved : goal.loop-event-preserved
loop-event-preserved c =
    elim c.if-is_in.branch [
      | then-is_in w ↦ step_in c.args.set.now c.args.by c.args.times.now _ _ c.loop-event.event w.later.result c.requires.times c.loop-event.invariant c.loop-event-test.true (omega arith) w.if-is_in.true w.later.ensures (record { sfits = w.later.type_inv }) w.times-is
      | else-is_in w ↦ step_out c.args.set.now c.args.by c.args.times.now _ _ c.loop-event.event c.loop-event.invariant c.loop-event-test.true (omega arith) w.if-is_in.false w.times-is
    ]
