use Rattle.std.proofs.Common.{◌∙◌, ap, arith}
use Rattle.job_settle.specs.Step.{shown_by}
use Rattle.job_settle.proofs.Answering.{closed_near, endless_shown, number_shown, unbounded_near, value_time}
use Rattle.falling.proofs.Near.{near_times}
use Rattle.job_settle.proofs.bounding.bound_by.Goals as goal
use Rattle.event_graph.proofs.MovingOn.{read_time}

pub moved-requires-clause-times : goal.moved-requires-clause-times
moved-requires-clause-times c =
    let f = c.requires.found in
    near_times c.args.found.times.items (closed_near c.args.net.now c.args.which c.args.row.now f.0 c.args.found c.is_whole.ensures.net c.requires.row f.1 c.in-Closed.value c.in-Closed.is).0

pub returns-in-Closed : goal.returns-in-Closed
returns-in-Closed c =
    let f = c.requires.found in
    let value = c.in-Closed.value in
    let time = value_time c.args.net.now c.args.which c.args.row.now f.0 c.args.found c.is_whole.ensures.net c.requires.row f.1 value c.in-Closed.is in
    let n = number_shown c.args.net.now c.args.which c.args.row.now f.0 c.args.found c.is_whole.ensures.net c.requires.row f.1 c.args.cert value _ _ c.proof_of.result c.in-Closed.is
    c.proof_of.ensures.proves (read_time c.shown_by.result c.shown_by.ensures.within ∙ c.shown_by.ensures.shown ∙ ap (shown_by c.args.which) (read_time value time)) c.moved.ensures.moved in
    record {
      bound = n.0;
      nearby = n.1;
      lines = c.proof_of.ensures.lines;
    }

pub moved-requires-in-Unbounded-clause-times : goal.moved-requires-in-Unbounded-clause-times
moved-requires-in-Unbounded-clause-times c =
    let f = c.requires.found in
    near_times c.args.found.times.items (unbounded_near c.args.net.now c.args.which c.args.row.now f.0 c.args.found c.is_whole.ensures.net c.requires.row f.1 c.in-Unbounded.is).0

pub returns-in-Unbounded : goal.returns-in-Unbounded
returns-in-Unbounded c =
    let f = c.requires.found in
    let n = endless_shown c.args.net.now c.args.which c.args.row.now f.0 c.args.found c.is_whole.ensures.net c.requires.row f.1 _ c.in-Unbounded.is c.moved-in-Unbounded.ensures.moved in
    record { bound = n.0; nearby = n.1; lines = omega arith }
