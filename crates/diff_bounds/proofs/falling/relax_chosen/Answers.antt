use Rattle.std.proofs.Common.{◌∙◌, SFits, Some, ap, rules, subst, sym, w64, ℤ}
use Rattle.std.proofs.lemmas.Bool.{MatchBool-at_false}
use Rattle.std.proofs.lemmas.Int.{to_z-of_z}
use Rattle.std.proofs.lemmas.Option.{get_or_from_slice_get, slice_get_within}
use Rattle.diff_bounds.specs.Arcs.{IsArc}
use Rattle.diff_bounds.specs.Labels.{labels_from}
use Rattle.diff_bounds.proofs.Parts.{tried_falls, tried_running}
use Rattle.diff_bounds.proofs.Tracing.{Traced, traced_among, traced_at, traced_not, traced_on, traced_start, traced_tried}
use Rattle.diff_bounds.proofs.falling.relax_chosen.Goals as goal
use Rattle.diff_bounds.proofs.falling.relax_chosen.Goals.{After-arc-arc}

traced : (c : After-arc-arc) → Traced c.args.net.now c.args.run c.args.from.0 c.args.chosen.now.arcs c.args.trail.now c.loop-next.trail c.args.pending.now c.loop-next.pending (Some c.in-Some.place)
traced c = traced_at _ _ _ _ _ _ _ _ _ _ c.loop-next.invariant.traced c.in-Some.is

pub follow-requires-clause-running : goal.follow-requires-clause-running
follow-requires-clause-running c = tried_running _ _ _ _ _ _ _ _ _ (traced_tried _ _ _ _ _ _ _ _ _ c.loop-next.invariant.traced) c.requires.running

pub follow-requires-clause-arc : goal.follow-requires-clause-arc
follow-requires-clause-arc c =
    let here = c.arc-arc.result.now in
    subst (IsArc c.args.net.now) (get_or_from_slice_get c.args.chosen.now.arcs c.in-Some.place here here c.arc-arc.ensures)
    (c.requires.arcs c.in-Some.place here (slice_get_within c.args.chosen.now.arcs c.in-Some.place here c.arc-arc.ensures))

pub follow-requires-clause-among : goal.follow-requires-clause-among
follow-requires-clause-among c = traced_among _ _ _ _ _ _ _ _ _ _ (traced (goal.at.follow-requires-clause-among c).After-arc-arc) c.requires.among c.arc-arc.ensures

pub returns-then-follow-clause-falls : goal.returns-then-follow-clause-falls
returns-then-follow-clause-falls c = tried_falls _ _ _ _ _ _ _ _ _ _ _ (traced_tried _ _ _ _ _ _ _ _ _ c.loop-next.invariant.traced) c.follow.ensures.falls

pub follow-requires-clause-near : goal.follow-requires-clause-near
follow-requires-clause-near c =
    let starts = traced_start _ _ _ _ _ _ _ _ _ _ (traced (goal.at.follow-requires-clause-near c).After-arc-arc) c.arc-arc.ensures in
    ap (labels_from c.loop-next.trail.current.stamps c.args.run.base) starts ∙ c.loop-next.invariant.near

pub loop-next-init : goal.loop-next-init
loop-next-init c =
    let fits : SFits w64 c.in_ok-near.near = search rules in
    record {
      traced = traced_not _ _ _ _ _ _ _ c.latest-next.ensures;
      near = sym c.label_in.ensures ∙ c.in_ok-near.was ∙ ap (λ (z : ℤ). Some z) (sym (to_z-of_z w64 c.in_ok-near.near fits));
    }

pub loop-next-preserved : goal.loop-next-preserved
loop-next-preserved c =
    let here = traced (goal.at.loop-next-preserved c).After-arc-arc in
    let starts = traced_start _ _ _ _ _ _ _ _ _ _ here c.arc-arc.ensures in
    record {
      traced = traced_on _ _ _ _ _ _ _ _ _ _ _ _ _ here c.requires.among c.arc-arc.ensures c.follow.ensures.falls
          (MatchBool-at_false {b = c.follow.result} _ _ c.if-follow.false c.follow.ensures.done) c.earlier-next.ensures;
      near = sym (ap (labels_from c.follow.new.trail.current.stamps c.args.run.base) starts) ∙ c.follow.ensures.near;
    }
