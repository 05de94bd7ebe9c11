use Rattle.std.proofs.Common.{◌≡◌, ◌∙◌, Some, arith, inl, refl, subst, sym}
use Rattle.std.proofs.lemmas.Int.{ints}
use Rattle.trail.specs.Stack.{TrailView}
use Rattle.diff_bounds.specs.Labels.{labels_from}
use Rattle.diff_bounds.specs.Step.Falling.{Falls, IsDone, scope_of}
use Rattle.diff_bounds.proofs.Falls.{fallen_at, falls_not, falls_once, follows_itself}
use Rattle.diff_bounds.proofs.Runs.{OneFall, after_fall, fall_apart, label_there, near_of}
use Rattle.diff_bounds.proofs.falling.follow.Goals as goal
use Rattle.diff_bounds.proofs.falling.follow.Goals.{After-wait}

pub relax-requires-clause-range : goal.relax-requires-clause-range
relax-requires-clause-range c =
    let near =
    near_of (scope_of c.args.net.now c.args.trail.now c.args.run) c.args.run c.args.trail.now.current.stamps c.args.arc.now.edge.from.0 c.args.near c.requires.running c.requires.placed.most
    c.requires.placed.is_net.events c.requires.arc.within.from c.requires.near in
    let low = near.0 in
    let high = near.1 in
    (omega (arith, ints), omega (arith, ints))

abbrev fall_of : (c : After-wait) → OneFall (scope_of c.args.net.now c.args.trail.now c.args.run) c.args.run c.args.trail.now.current.stamps c.args.arc.now.name c.args.arc.now.edge
fall_of c = record { among = c.requires.among; within = c.requires.arc.within; under = c.in-Fell.ensures.0; off = c.in-Fell.ensures.1; slots = c.requires.placed.slots }

pub returns-in-Fell-clause-falls : goal.returns-in-Fell-clause-falls
returns-in-Fell-clause-falls c =
    let P : TrailView → Type 0 = λ st. Falls (scope_of c.args.net.now c.args.trail.now c.args.run) c.args.run c.args.trail.now st c.args.pending.now c.wait.new.pending in
    subst P (sym c.in-Fell.ensures.2)
    (falls_once c.args.net.now (scope_of c.args.net.now c.args.trail.now c.args.run) c.args.run c.args.trail.now c.args.pending.now c.wait.new.pending c.args.arc.now.name c.args.arc.now.edge (fall_of c) refl refl
    c.requires.placed c.requires.running c.wait.ensures)

pub returns-in-Fell-clause-done : goal.returns-in-Fell-clause-done
returns-in-Fell-clause-done c =
    let s = scope_of c.args.net.now c.args.trail.now c.args.run in
    let stamps = c.args.trail.now.current.stamps in
    let fall = fall_of c in
    let P : TrailView → Type 0 = λ st. IsDone c.args.run st.current.stamps c.wait.new.pending.marks c.args.arc.now.edge in
    subst P (sym c.in-Fell.ensures.2)
    (inl (follows_itself (labels_from stamps c.args.run.base) (labels_from (after_fall s c.args.run stamps c.args.arc.now.name c.args.arc.now.edge fall) c.args.run.base) c.args.arc.now.edge fall.under.near
    (fallen_at s c.args.run stamps c.args.arc.now.name c.args.arc.now.edge fall) fall.under.start (fall_apart s c.args.run stamps c.args.arc.now.name c.args.arc.now.edge fall c.requires.running)))

pub returns-in-Fell-clause-near : goal.returns-in-Fell-clause-near
returns-in-Fell-clause-near c =
    let s = scope_of c.args.net.now c.args.trail.now c.args.run in
    let stamps = c.args.trail.now.current.stamps in
    let fall = fall_of c in
    let P : TrailView → Type 0 = λ st. labels_from st.current.stamps c.args.run.base c.args.arc.now.edge.from.0 ≡ Some c.args.near in
    subst P (sym c.in-Fell.ensures.2)
    (label_there s c.args.run stamps c.args.arc.now.name c.args.arc.now.edge fall c.args.arc.now.edge.from.0
    (fall_apart s c.args.run stamps c.args.arc.now.name c.args.arc.now.edge fall c.requires.running) ∙ c.requires.near)

pub returns-in-Stops-clause-falls : goal.returns-in-Stops-clause-falls
returns-in-Stops-clause-falls c =
    let s = scope_of c.args.net.now c.args.trail.now c.args.run in
    let P : TrailView → Type 0 = λ st. Falls s c.args.run c.args.trail.now st c.args.pending.now c.args.pending.now in
    subst P (sym c.in-Stops.ensures.0) (falls_not s c.args.run c.args.trail.now c.args.pending.now)
