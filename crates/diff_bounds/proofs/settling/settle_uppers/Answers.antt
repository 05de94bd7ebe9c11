use Rattle.diff_bounds.proofs.Poising.{settled_after, upper_ran, upper_running}
use Rattle.diff_bounds.proofs.settling.settle_uppers.Goals as goal

pub fall_from-requires-clause-running : goal.fall_from-requires-clause-running
fall_from-requires-clause-running c =
    upper_running c.args.net.now c.args.out.now c.args.chosen.now.arcs c.args.from c.requires.ready.0 c.args.trail.now c.args.pending.now c.requires.ready.2 c.requires.feasible

pub returns-clause-fallen : goal.returns-clause-fallen
returns-clause-fallen c =
    (upper_ran c.args.net.now c.args.out.now c.args.chosen.now.arcs c.args.from c.requires.ready.0 c.args.trail.now c.fall_from.new.trail c.args.pending.now c.args.pending.now c.fall_from.new.pending c.requires.ready.2
    c.requires.feasible c.fall_from.ensures.runs).fallen

pub returns-clause-settled : goal.returns-clause-settled
returns-clause-settled c =
    λ source within ready.
    settled_after c.args.net.now c.args.out.now c.args.chosen.now.arcs c.args.from source c.args.trail.now c.args.pending.now c.fall_from.new.trail.current.stamps ready within c.requires.feasible
    (upper_ran c.args.net.now c.args.out.now c.args.chosen.now.arcs c.args.from source c.args.trail.now c.fall_from.new.trail c.args.pending.now c.args.pending.now c.fall_from.new.pending ready c.requires.feasible c.fall_from.ensures.runs)
    c.in-None.ensures.settled
