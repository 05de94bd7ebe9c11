use Rattle.std.proofs.Common.{◌∙◌}
use Rattle.diff_bounds.proofs.AtOnce.{done_at_once, feasible_at_once, near_at_once, placed_at_once, running_at_once}
use Rattle.diff_bounds.proofs.settling.settle_at_once.Goals as goal

pub fall-requires-clause-placed : goal.fall-requires-clause-placed
fall-requires-clause-placed c = rw c.events-events.ensures.count (placed_at_once c.args.net.now c.args.first c.args.trail.now c.push_from.new.pending c.requires.net c.requires.begun (c.push_from.ensures.marks ∙ c.requires.marks))

pub fall-requires-clause-running : goal.fall-requires-clause-running
fall-requires-clause-running c = rw c.events-events.ensures.count (running_at_once c.args.net.now c.args.first c.args.trail.now c.args.guess.now c.requires.edges c.requires.begun c.requires.guess)

pub fall-requires-clause-waits : goal.fall-requires-clause-waits
fall-requires-clause-waits c = rw c.events-events.ensures.count (done_at_once c.args.net.now c.args.first c.args.trail.now c.push_from.new.pending.marks c.requires.net (rw c.events-events.ensures.count at c.push_from.ensures.all))

pub returns-clause-near : goal.returns-clause-near
returns-clause-near c =
    let runs = rw c.events-events.ensures.count at c.fall.ensures.runs in
    near_at_once c.args.net.now c.args.first c.args.trail.now c.fall.new.trail c.args.guess.now c.push_from.new.pending c.fall.new.pending c.requires.edges c.requires.begun c.requires.guess runs

pub returns-clause-feasible : goal.returns-clause-feasible
returns-clause-feasible c =
    let runs = rw c.events-events.ensures.count at c.fall.ensures.runs in
    let settled = rw c.events-events.ensures.count at c.in-None.ensures.settled in
    feasible_at_once c.args.net.now c.args.first c.args.trail.now c.fall.new.trail c.args.guess.now c.push_from.new.pending c.fall.new.pending c.requires.edges c.requires.begun c.requires.guess runs settled
