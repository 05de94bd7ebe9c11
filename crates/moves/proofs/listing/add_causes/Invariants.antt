use Rattle.std.proofs.Common.{◌≡◌, fold, take, zip}
use Rattle.drawn_numbers.specs.Numbers.{origins_of, part_of_target}
use Rattle.moves.specs.Listed.{with_cause}
use Rattle.moves.specs.Step.{AreKeysOf, causes_at}
use Rattle.moves.proofs.listing.add_causes.Given as goal

-- the numbers behind the first causes, and their keys
abbrev pub invariant-loop-k : goal.invariant-loop-k
invariant-loop-k l = record {
  numbers :
      l.seen.items ≡ fold (with_cause (part_of_target l.drawn l.constraint)) l.fn.seen.items (take l.k (zip (causes_at l.drawn.net l.constraint) (origins_of l.drawn l.constraint)));
  keys : AreKeysOf l.seen.items l.keys;
}
