use Rattle.std.proofs.Common.{◌≡◌, ◌≤◌, length, map, refl, sym, ap, subst, ◌∙◌, arith}
use Rattle.std.proofs.lemmas.List.{take_all}
use Rattle.std.proofs.lemmas.Option.{same_Some, slice_get-get_or}
use Rattle.itv_base.specs.declared.names.EventId.{EventId}
use Rattle.event_graph.specs.declared.cause.Cause.{Cause}
use Rattle.drawn_numbers.specs.Numbers.{origins_of}
use Rattle.moves.specs.Step.{causes_at, lent}
use Rattle.moves.proofs.Drew.{same_count}
use Rattle.spans.specs.Step.{FramesCauses, IsFramedRange, range_at}
use Rattle.spans.proofs.Framed.{causes_more, causes_whole, events_more}
use Rattle.spans.proofs.Multiples.{as_passed}
use Rattle.spans.proofs.frame.framed_causes.Goals as goal

pub loop-k-preserved : goal.loop-k-preserved
loop-k-preserved c =
    let framed : Cause = record { event = c.cause_of-cause.result.event; range = c.in-Some.range } in
    record {
      frames = λ value within.
          causes_more c.args.kind c.args.counts.now c.args.drawn.now (lent c.args.numbers.now) c.args.constraint c.loop-k.k c.target_of-target.result c.part_of_target-part.result.now
          c.origins_of-origins.result.now c.cause_of-cause.result framed _ c.any_draws.result c.apart-apart.result value c.loop-k.causes.items c.push.new.self.items c.read_drawn.ensures.fit
          c.part_of_target-part.ensures.part c.origins_of-origins.ensures.origins c.cause_of-cause.ensures.cause
          (slice_get-get_or c.origins_of-origins.result.now c.loop-k.k _ c.loop-k-test.true) c.any_draws.ensures.any_draws c.apart-apart.ensures.apart refl
          (as_passed (λ a. IsFramedRange c.args.kind (range_at c.any_draws.result a value c.cause_of-cause.result.range) c.in-Some.range) c.apart-apart.result (record { sfits = c.apart-apart.type_inv })
          (c.in-Some.ensures.frames value within)) (c.loop-k.invariant.frames value within) c.in_ok-push-in-Some.ensures.items;
      events = events_more (causes_at c.args.drawn.now.net c.args.constraint) c.loop-k.k c.cause_of-cause.result framed c.loop-k.causes.items c.push.new.self.items c.cause_of-cause.ensures.cause refl
          c.loop-k.invariant.events c.in_ok-push-in-Some.ensures.items;
    }

pub returns-clause-frames : goal.returns-clause-frames
returns-clause-frames c = λ target is value within.
    let all : length (origins_of c.args.drawn.now c.args.constraint) ≤ c.loop-k.k = omega (arith, c.loop-k-test.false, ap length c.origins_of-origins.ensures.origins) in
    let same : c.target_of-target.result ≡ target = same_Some c.target_of-target.result target (sym c.target_of-target.ensures.target ∙ is) in
    subst (λ (t : EventId). FramesCauses c.args.kind c.args.counts.now c.args.drawn.now (lent c.args.numbers.now) c.args.constraint t c.loop-k.causes.items value) same
    (causes_whole c.args.kind c.args.counts.now c.args.drawn.now (lent c.args.numbers.now) c.args.constraint c.loop-k.k c.target_of-target.result c.loop-k.causes.items value c.read_drawn.ensures.fit all
    (c.loop-k.invariant.frames value within))

pub returns-clause-events : goal.returns-clause-events
returns-clause-events c =
    let all : length (origins_of c.args.drawn.now c.args.constraint) ≤ c.loop-k.k = omega (arith, c.loop-k-test.false, ap length c.origins_of-origins.ensures.origins) in
    let same : length (origins_of c.args.drawn.now c.args.constraint) ≡ length (causes_at c.args.drawn.now.net c.args.constraint) =
    same_count c.args.drawn.now c.args.constraint c.read_drawn.ensures.fit in
    c.loop-k.invariant.events ∙ ap (map (λ (x : Cause). x.event)) (take_all c.loop-k.k (causes_at c.args.drawn.now.net c.args.constraint) (omega (arith, same, all)))
