use Rattle.std.proofs.Common.{◌≤◌, length, refl, ap, arith}
use Rattle.std.proofs.lemmas.Option.{slice_get-get_or}
use Rattle.drawn_numbers.specs.Numbers.{origins_of}
use Rattle.moves.specs.Step.{lent, moved_by}
use Rattle.moves.proofs.Moved.{can_more, causes_more, causes_whole, drawable_at, drawable_whole, events_moved}
use Rattle.moves.proofs.moving.moved_causes.Goals as goal

pub returns-in-None-clause-ranges : goal.returns-in-None-clause-ranges
returns-in-None-clause-ranges c = (
  λ some. absurd (cc some),
  λ all. c.in-None.ensures.ranges.1
      (drawable_at (moved_by c.args.by) c.args.drawn.now (lent c.args.numbers.now) c.args.constraint c.loop-k.k c.part_of_target-part.result.now c.origins_of-origins.result.now
      c.cause_of-cause.result _ c.any_draws.result c.part_of_target-part.ensures.part c.origins_of-origins.ensures.origins c.cause_of-cause.ensures.cause
      (slice_get-get_or c.origins_of-origins.result.now c.loop-k.k _ c.loop-k-test.true) c.any_draws.ensures.any_draws all),
)

pub loop-k-preserved : goal.loop-k-preserved
loop-k-preserved c = record {
  causes = causes_more (moved_by c.args.by) c.args.drawn.now (lent c.args.numbers.now) c.args.constraint c.loop-k.k c.part_of_target-part.result.now c.origins_of-origins.result.now
      c.cause_of-cause.result _ c.any_draws.result c.in-Some.cause c.loop-k.causes.items c.push.new.self.items c.read_drawn.ensures.fit c.part_of_target-part.ensures.part
      c.origins_of-origins.ensures.origins c.cause_of-cause.ensures.cause (slice_get-get_or c.origins_of-origins.result.now c.loop-k.k _ c.loop-k-test.true) c.any_draws.ensures.any_draws
      c.in-Some.ensures.moved c.loop-k.invariant.causes c.in_ok-push-in-Some.ensures.items;
  can = can_more (moved_by c.args.by) c.args.drawn.now (lent c.args.numbers.now) c.args.constraint c.loop-k.k c.part_of_target-part.result.now c.origins_of-origins.result.now
      c.cause_of-cause.result _ c.any_draws.result c.part_of_target-part.ensures.part c.origins_of-origins.ensures.origins c.cause_of-cause.ensures.cause
      (slice_get-get_or c.origins_of-origins.result.now c.loop-k.k _ c.loop-k-test.true) c.any_draws.ensures.any_draws (c.in-Some.ensures.ranges.0 refl) c.loop-k.invariant.can;
}

pub returns-clause-causes : goal.returns-clause-causes
returns-clause-causes c =
    let all : length (origins_of c.args.drawn.now c.args.constraint) ≤ c.loop-k.k =
    omega (arith, c.loop-k-test.false, ap length c.origins_of-origins.ensures.origins) in
    causes_whole (moved_by c.args.by) c.args.drawn.now (lent c.args.numbers.now) c.args.constraint c.loop-k.k c.loop-k.causes.items c.read_drawn.ensures.fit all c.loop-k.invariant.causes

pub returns-clause-ranges : goal.returns-clause-ranges
returns-clause-ranges c =
    let all : length (origins_of c.args.drawn.now c.args.constraint) ≤ c.loop-k.k =
    omega (arith, c.loop-k-test.false, ap length c.origins_of-origins.ensures.origins) in
    (λ some. drawable_whole (moved_by c.args.by) c.args.drawn.now (lent c.args.numbers.now) c.args.constraint c.loop-k.k c.read_drawn.ensures.fit all c.loop-k.invariant.can, λ drawable. refl)

pub returns-clause-events : goal.returns-clause-events
returns-clause-events c =
    let all : length (origins_of c.args.drawn.now c.args.constraint) ≤ c.loop-k.k =
    omega (arith, c.loop-k-test.false, ap length c.origins_of-origins.ensures.origins) in
    events_moved (moved_by c.args.by) c.args.drawn.now (lent c.args.numbers.now) c.args.constraint c.loop-k.causes.items
    (causes_whole (moved_by c.args.by) c.args.drawn.now (lent c.args.numbers.now) c.args.constraint c.loop-k.k c.loop-k.causes.items c.read_drawn.ensures.fit all c.loop-k.invariant.causes)
