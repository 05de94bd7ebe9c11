use Rattle.std.proofs.Common.{refl}
use Rattle.diff_bounds.specs.Step.Falling.{RunsOn, scope_of}
use Rattle.diff_bounds.proofs.Parts.{at_first, chosen_among, chosen_now, done_again, runs_running, runs_step, settled}
use Rattle.diff_bounds.proofs.falling.fall.Goals as goal
use Rattle.diff_bounds.proofs.falling.fall.Goals.{After-relax_from}

-- what has run when the always-edges were tried
runs_first : (c : After-relax_from) → RunsOn (scope_of c.args.net.now c.args.trail.now c.args.run) c.args.run c.args.trail.now c.relax_from.new.trail c.args.pending.now c.relax_from.new.pending
runs_first c =
    runs_step c.args.net.now c.args.run c.args.trail.now c.loop-event.trail c.relax_from.new.trail c.args.pending.now c.loop-event.pending c.pop.new.self c.relax_from.new.pending
    c.loop-event.invariant.runs c.pop.ensures.marks c.relax_from.ensures.falls

pub relax_from-requires-clause-running : goal.relax_from-requires-clause-running
relax_from-requires-clause-running c = runs_running c.args.net.now c.args.run _ _ _ _ c.requires.running c.loop-event.invariant.runs

pub returns-in-Some-relax_from-clause-runs : goal.returns-in-Some-relax_from-clause-runs
returns-in-Some-relax_from-clause-runs c = runs_first (goal.at.returns-in-Some-relax_from-clause-runs c).After-relax_from

pub relax_chosen-requires-clause-running : goal.relax_chosen-requires-clause-running
relax_chosen-requires-clause-running c =
    runs_running c.args.net.now c.args.run _ _ _ _ c.requires.running (runs_first (goal.at.relax_chosen-requires-clause-running c).After-relax_from)

pub relax_chosen-requires-clause-among : goal.relax_chosen-requires-clause-among
relax_chosen-requires-clause-among c =
    chosen_among c.args.net.now c.relax_from.new.trail c.args.run c.args.chosen.now.arcs c.in-Some.event.0
    (chosen_now c.args.net.now c.args.run _ _ _ _ c.args.chosen.now.arcs (runs_first (goal.at.relax_chosen-requires-clause-among c).After-relax_from) c.requires.chosen) c.if-event-run.false

pub returns-in-Some-relax_chosen-clause-runs : goal.returns-in-Some-relax_chosen-clause-runs
returns-in-Some-relax_chosen-clause-runs c =
    runs_step c.args.net.now c.args.run c.args.trail.now c.relax_from.new.trail c.relax_chosen.new.trail c.args.pending.now c.relax_from.new.pending c.relax_from.new.pending c.relax_chosen.new.pending
    (runs_first (goal.at.returns-in-Some-relax_chosen-clause-runs c).After-relax_from) refl c.relax_chosen.ensures.falls

pub loop-event-preserved : goal.loop-event-preserved
loop-event-preserved c =
    let net = c.args.net.now in
    let run = c.args.run in
    let start = c.args.trail.now in
    let first = runs_first (goal.at.loop-event-preserved c).After-relax_from in
    record {
      runs = runs_step net run start c.relax_from.new.trail c.relax_chosen.new.trail c.args.pending.now c.relax_from.new.pending c.relax_from.new.pending c.relax_chosen.new.pending first refl
          c.relax_chosen.ensures.falls;
      all = done_again net run c.args.out.now c.args.chosen.now.arcs c.in-Some.event.0 start c.loop-event.trail c.relax_from.new.trail c.relax_chosen.new.trail c.loop-event.pending c.pop.new.self c.relax_from.new.pending
          c.relax_chosen.new.pending c.requires.out c.requires.chosen c.loop-event.invariant.all c.in-Some.ensures.event.1
          (at_first net run start c.loop-event.trail c.loop-event.trail c.relax_from.new.trail c.args.pending.now c.loop-event.pending c.pop.new.self c.relax_from.new.pending c.loop-event.invariant.runs c.relax_from.ensures.falls)
          (rw (← c.of.ensures.list) c.in_default-relax_from.ensures.done)
          (at_first net run start c.relax_from.new.trail c.relax_from.new.trail c.relax_chosen.new.trail c.args.pending.now c.relax_from.new.pending c.relax_from.new.pending c.relax_chosen.new.pending first
          c.relax_chosen.ensures.falls)
          c.in_default-relax_chosen.ensures.done;
    }

pub returns-clause-settled : goal.returns-clause-settled
returns-clause-settled c =
    settled (scope_of c.args.net.now c.args.trail.now c.args.run) c.args.run c.loop-event.trail.current.stamps c.loop-event.pending.marks c.loop-event.invariant.all c.in_default.ensures.event.1
