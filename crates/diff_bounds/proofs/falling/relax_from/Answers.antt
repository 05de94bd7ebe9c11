use Rattle.std.proofs.Common.{◌∙◌, SFits, Some, ap, arith, rules, sym, w64, ℤ}
use Rattle.std.proofs.lemmas.Bool.{MatchBool-at_false}
use Rattle.std.proofs.lemmas.Int.{to_z-of_z}
use Rattle.std.proofs.lemmas.List.{get_or_default}
use Rattle.diff_bounds.specs.Labels.{labels_from}
use Rattle.diff_bounds.proofs.Falls.{falls_not}
use Rattle.diff_bounds.proofs.Parts.{tried_falls, tried_on, tried_running}
use Rattle.diff_bounds.proofs.falling.relax_from.Goals as goal

pub follow-requires-clause-running : goal.follow-requires-clause-running
follow-requires-clause-running c = tried_running _ _ _ _ _ _ _ _ _ c.loop-arc.invariant.tried c.requires.running

pub follow-requires-clause-near : goal.follow-requires-clause-near
follow-requires-clause-near c =
    let starts = c.requires.starts c.loop-arc.arc-index _ c.loop-arc-test.true in
    ap (labels_from c.loop-arc.trail.current.stamps c.args.run.base) starts ∙ c.loop-arc.invariant.near

pub returns-then-follow-clause-falls : goal.returns-then-follow-clause-falls
returns-then-follow-clause-falls c = tried_falls _ _ _ _ _ _ _ _ _ _ _ c.loop-arc.invariant.tried c.follow.ensures.falls

pub loop-arc-preserved : goal.loop-arc-preserved
loop-arc-preserved c =
    let is = get_or_default c.args.arcs.now c.loop-arc.arc-index _ _ c.loop-arc-test.true in
    let starts = c.requires.starts c.loop-arc.arc-index _ c.loop-arc-test.true in
    record {
      tried = tried_on c.args.net.now c.args.run c.args.from.0 c.args.arcs.now c.args.trail.now c.loop-arc.trail c.follow.new.trail c.args.pending.now c.loop-arc.pending c.follow.new.pending c.loop-arc.arc-index _
          c.loop-arc.invariant.tried c.requires.among c.loop-arc-test.true is c.follow.ensures.falls (λ _. MatchBool-at_false {b = c.follow.result} _ _ c.if-follow.false c.follow.ensures.done);
      near = sym (ap (labels_from c.follow.new.trail.current.stamps c.args.run.base) starts) ∙ c.follow.ensures.near;
    }

pub loop-arc-init : goal.loop-arc-init
loop-arc-init c =
    let fits : SFits w64 c.in_ok-near.near = search rules in
    record {
      tried = record { falls = falls_not _ _ _ _; done = λ k d low high. absurd (omega arith) };
      near = sym c.label_in.ensures ∙ c.in_ok-near.was ∙ ap (λ (z : ℤ). Some z) (sym (to_z-of_z w64 c.in_ok-near.near fits));
    }
