use Rattle.std.proofs.Common.{◌≤◌, length, ap, arith}
use Rattle.std.proofs.lemmas.Option.{slice_get-get_or}
use Rattle.drawn_numbers.specs.Numbers.{origins_of}
use Rattle.moves.proofs.Seen.{seen_more, seen_whole}
use Rattle.moves.proofs.listing.add_causes.Goals as goal

pub loop-k-preserved : goal.loop-k-preserved
loop-k-preserved c = record {
  numbers =
      seen_more c.args.drawn.now c.args.constraint c.loop-k.k c.part_of_target-part.result.now c.origins_of-origins.result.now c.cause_of-cause.result _ c.args.seen.now.items
      c.loop-k.seen.items c.add_number.new.seen.items c.part_of_target-part.ensures.part c.origins_of-origins.ensures.origins c.cause_of-cause.ensures.cause
      (slice_get-get_or c.origins_of-origins.result.now c.loop-k.k _ c.loop-k-test.true) c.loop-k.invariant.numbers c.in_ok-add_number.ensures.added;
  keys = c.in_ok-add_number.ensures.keys;
}

pub returns : goal.returns
returns c =
    let all : length (origins_of c.args.drawn.now c.args.constraint) ≤ c.loop-k.k =
    omega (arith, c.loop-k-test.false, ap length c.origins_of-origins.ensures.origins) in
    record {
      added = seen_whole c.args.drawn.now c.args.constraint c.loop-k.k c.args.seen.now.items c.loop-k.seen.items all c.loop-k.invariant.numbers;
      keys = c.loop-k.invariant.keys;
    }
