use Rattle.std.proofs.Common.{◌<◌, subst, sym}
use Rattle.job_bounds.proofs.Passing.{new_times, raise_done, raises}
use Rattle.job_bounds.proofs.Shifted.{times_nearby}
use Rattle.job_bounds.proofs.past.raise.Goals as goal
use Rattle.event_graph.proofs.MovingOn.{read_time}
use Rattle.event_graph.proofs.Sizes.{end_time, printed_times}

pub raise_past-requires-clause-times : goal.raise_past-requires-clause-times
raise_past-requires-clause-times c =
    printed_times c.args.times.now
    (times_nearby c.args.times.now c.args.pair.from c.requires.kept.nearby (subst (λ n. c.args.pair.from.0 < n) (sym c.requires.kept.satisfied.count) c.requires.kept.from) c.requires.kept.at_zero)

pub move_all-requires-clause-times : goal.move_all-requires-clause-times
move_all-requires-clause-times c =
    let r = raises c.args.times.now c.args.set.now c.args.pair c.args.which c.searched_pair-searched.result c.args.limit _ c.raise_past.new.times c.searched_pair-searched.ensures.pair
    (read_time c.args.limit (end_time c.args.limit c.requires.limit)) c.raise_past.ensures in
    new_times c.args.net.now c.args.pair c.args.which c.args.limit c.args.times.now c.args.set.now c.raise_past.new.times c.requires.net c.requires.limit c.requires.to c.requires.kept r

pub returns : goal.returns
returns c =
    let r = raises c.args.times.now c.args.set.now c.args.pair c.args.which c.searched_pair-searched.result c.args.limit _ c.raise_past.new.times c.searched_pair-searched.ensures.pair
    (read_time c.args.limit (end_time c.args.limit c.requires.limit)) c.raise_past.ensures in
    record {
      past = raise_done c.args.net.now c.args.pair c.args.which c.args.limit c.args.times.now c.args.set.now c.raise_past.new.times c.requires.net c.requires.limit c.requires.to c.requires.kept r c.move_all.new.times
          c.move_all.ensures.moved;
    }
