use Rattle.std.proofs.Common.{◌+◌, ◌<◌, ℕ, List, length, slice_get, sym, ap, subst, ◌∙◌, arith}
use Rattle.event_graph.specs.Network.{Net}
use Rattle.event_graph.specs.declared.cause.Cause.{Cause}
use Rattle.moves.specs.Step.{lent}
use Rattle.spans.specs.Step.{FramesCauses}
use Rattle.spans.proofs.Framed.{added_count, added_events, net_more, net_whole}
use Rattle.spans.proofs.frame.framed_net.Goals as goal

pub loop-constraint-preserved : goal.loop-constraint-preserved
loop-constraint-preserved c =
    let same = ap (λ (n : Net). length n.constraints) c.network-net.ensures.network in
    let k = c.loop-constraint.constraint in
    let below : k < length c.args.drawn.now.net.constraints = omega (arith, c.loop-constraint-test.true, c.len-constraint-end.ensures.count, same) in
    let frames = rw c.in-Some.is at c.in_ok-framed_causes.ensures.frames in
    let added = c.in_ok-push_with-in-Some.ensures.added in
    record {
      frames = λ value within.
          net_more c.args.kind c.args.counts.now c.args.drawn.now (lent c.args.numbers.now) k c.deref.result.now value c.loop-constraint.frame c.push_with.new.grown c.read_drawn.ensures.fit below
          (λ target is. subst (λ (cs : List Cause). FramesCauses c.args.kind c.args.counts.now c.args.drawn.now (lent c.args.numbers.now) k target cs value) (sym c.deref.ensures.value)
          (frames target is value within)) (c.loop-constraint.invariant.frames value within) added;
      events = added_events (slice_get c.args.drawn.now.net.constraints k) c.deref.result.now c.loop-constraint.frame c.push_with.new.grown added ∙ c.loop-constraint.invariant.events;
      count = added_count (slice_get c.args.drawn.now.net.constraints k) c.deref.result.now c.loop-constraint.frame c.push_with.new.grown added
          ∙ ap (λ (n : ℕ). n + 1) c.loop-constraint.invariant.count;
    }

pub returns-clause-frames : goal.returns-clause-frames
returns-clause-frames c = λ value within.
    let same = ap (λ (n : Net). length n.constraints) c.network-net.ensures.network in
    net_whole c.args.kind c.args.counts.now c.args.drawn.now (lent c.args.numbers.now) c.loop-constraint.constraint c.loop-constraint.frame value c.read_drawn.ensures.fit
    (omega (arith, c.loop-constraint-test.false, c.len-constraint-end.ensures.count, same)) c.loop-constraint.invariant.events (c.loop-constraint.invariant.frames value within)
