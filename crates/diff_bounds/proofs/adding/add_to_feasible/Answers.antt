use Rattle.std.proofs.Common.{subst, sym}
use Rattle.std.proofs.lemmas.Option.{IfSome_then}
use Rattle.trail.specs.Stack.{TrailView}
use Rattle.diff_bounds.specs.Step.Falling.{RunHasFallen}
use Rattle.diff_bounds.specs.Step.Poised.{feasible_run, scope_from}
use Rattle.diff_bounds.specs.Step.Walking.{HasLoop}
use Rattle.diff_bounds.proofs.Poising.{feasible_after, feasible_ran, feasible_running, if_none_then, loop_of}
use Rattle.diff_bounds.proofs.adding.add_to_feasible.Goals as goal
use Rattle.diff_bounds.proofs.adding.add_to_feasible.Goals.{After-fall_over}

pub fall_over-requires-clause-running : goal.fall_over-requires-clause-running
fall_over-requires-clause-running c =
    rw c.events.ensures.count (feasible_running c.args.net.now c.args.out.now c.args.chosen.now.arcs c.args.arc.edge.from 0 c.args.trail.now c.args.pending.now c.requires.added.ready)

pub fall_over-requires-clause-rest : goal.fall_over-requires-clause-rest
fall_over-requires-clause-rest c = rw c.events.ensures.count c.requires.added.rest

ran : (c : After-fall_over) → RunHasFallen (scope_from c.args.net.now c.args.trail.now 0) (feasible_run c.args.net.now c.args.arc.edge.from 0) c.args.trail.now.current.stamps c.fall_over.new.trail.current.stamps
ran c =
    let runs = rw c.events.ensures.count at c.fall_over.ensures.runs in
    feasible_ran c.args.net.now c.args.out.now c.args.chosen.now.arcs c.args.arc.edge.from 0 c.args.trail.now c.fall_over.new.trail c.args.pending.now c.args.pending.now c.fall_over.new.pending c.requires.added.ready runs

pub returns-clause-ran : goal.returns-clause-ran
returns-clause-ran c = ran (goal.at.returns-clause-ran c).After-fall_over

pub returns-clause-feasible : goal.returns-clause-feasible
returns-clause-feasible c =
    let at = (goal.at.returns-clause-feasible c).After-fall_over in
    let settled = rw c.events.ensures.count at c.fall_over.ensures.settled in
    if_none_then c.fall_over.result _ _ settled
    (feasible_after c.args.net.now c.args.out.now c.args.chosen.now.arcs c.args.arc.edge.from 0 c.args.trail.now c.args.pending.now c.fall_over.new.trail.current.stamps c.requires.added.ready c.requires.low (ran at))

pub returns-clause-loops : goal.returns-clause-loops
returns-clause-loops c =
    let at = (goal.at.returns-clause-loops c).After-fall_over in
    let closes = rw c.events.ensures.count at c.fall_over.ensures.closes in
    IfSome_then c.fall_over.result closes
    (λ a here. let P : TrailView → Type 0 = λ t. HasLoop c.args.net.now t a in
    subst P (sym c.fall_over.ensures.runs.stack)
    (loop_of c.args.net.now c.args.out.now c.args.chosen.now.arcs c.args.arc.edge.from 0 c.args.trail.now c.args.pending.now c.fall_over.new.trail.current.stamps a c.requires.added.ready (ran at) here))
