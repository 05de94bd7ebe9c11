use Rattle.job_settle.proofs.Raising.{new_times, raise_done, raises}
use Rattle.job_settle.proofs.past.raise.Goals as goal
use Rattle.event_graph.proofs.MovingOn.{read_time}
use Rattle.event_graph.proofs.Sizes.{end_time}

pub move_all-requires-clause-times : goal.move_all-requires-clause-times
move_all-requires-clause-times c =
    let r = raises c.args.times.now c.args.set.now c.source.result c.target.result _ c.args.limit c.raise_past.new.times c.args.which c.args.row.now c.source.ensures.event c.target.ensures.event
    (read_time c.args.limit (end_time c.args.limit c.requires.limit)) c.raise_past.ensures in
    new_times c.args.net.now c.args.which c.args.row.now c.args.limit c.args.times.now c.args.set.now c.requires.row c.requires.endless c.raise_past.new.times c.requires.net c.requires.limit
    c.requires.nearby r

pub returns : goal.returns
returns c =
    let r = raises c.args.times.now c.args.set.now c.source.result c.target.result _ c.args.limit c.raise_past.new.times c.args.which c.args.row.now c.source.ensures.event c.target.ensures.event
    (read_time c.args.limit (end_time c.args.limit c.requires.limit)) c.raise_past.ensures in
    record {
      past = raise_done c.args.net.now c.args.which c.args.row.now c.args.limit c.args.times.now c.args.set.now c.requires.row c.requires.endless c.raise_past.new.times c.requires.net c.requires.limit
          c.requires.nearby r c.move_all.new.times c.move_all.ensures.moved;
    }
