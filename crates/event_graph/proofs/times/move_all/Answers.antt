use Rattle.std.proofs.Common.{arith, subst, sym, ◌∙◌}
use Rattle.event_graph.specs.Times.{IsTime, time_of}
use Rattle.event_graph.proofs.MovingOn.{front_done, front_known, front_step, read_time}
use Rattle.event_graph.proofs.times.move_all.Goals as goal

pub since-requires-clause-time : goal.since-requires-clause-time
since-requires-clause-time c = front_known c.args.times.now c.loop-event.times _ c.loop-event.event c.requires.times c.loop-event.invariant (omega arith)

pub loop-event-preserved : goal.loop-event-preserved
loop-event-preserved c =
    front_step c.args.times.now c.loop-event.times _ c.since.result c.loop-event.event c.requires.times c.loop-event.invariant (omega arith) c.since.ensures.value (record { sfits = c.since.type_inv })

pub returns : goal.returns
returns c =
    let time : IsTime c.time_of-at.result = subst IsTime (sym c.time_of-at.ensures.time) (c.requires.times _ _ c.requires.event) in record {
      moved = front_done c.args.times.now c.loop-event.times (time_of c.args.times.now c.args.origin) _ c.loop-event.event (read_time c.time_of-at.result time ∙ c.time_of-at.ensures.time)
          c.loop-event.invariant (omega arith);
    }
