use Rattle.diff_bounds.proofs.Poising.{settled_after, upper_ran, upper_running}
use Rattle.diff_bounds.proofs.adding.add_to_uppers.Goals as goal

pub fall_over-requires-clause-running : goal.fall_over-requires-clause-running
fall_over-requires-clause-running c =
    upper_running c.args.net.now c.args.out.now c.args.chosen.now.arcs c.args.arc.edge.from c.requires.added.0 c.args.trail.now c.args.pending.now c.requires.added.2.ready c.requires.feasible

pub returns-clause-fallen : goal.returns-clause-fallen
returns-clause-fallen c =
    (upper_ran c.args.net.now c.args.out.now c.args.chosen.now.arcs c.args.arc.edge.from c.requires.added.0 c.args.trail.now c.fall_over.new.trail c.args.pending.now c.args.pending.now c.fall_over.new.pending c.requires.added.2.ready
    c.requires.feasible c.fall_over.ensures.runs).fallen

pub returns-clause-settled : goal.returns-clause-settled
returns-clause-settled c =
    λ source within added.
    settled_after c.args.net.now c.args.out.now c.args.chosen.now.arcs c.args.arc.edge.from source c.args.trail.now c.args.pending.now c.fall_over.new.trail.current.stamps added.ready within c.requires.feasible
    (upper_ran c.args.net.now c.args.out.now c.args.chosen.now.arcs c.args.arc.edge.from source c.args.trail.now c.fall_over.new.trail c.args.pending.now c.args.pending.now c.fall_over.new.pending added.ready c.requires.feasible c.fall_over.ensures.runs)
    c.in-None.ensures.settled
