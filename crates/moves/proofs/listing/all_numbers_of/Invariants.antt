use Rattle.std.proofs.Common.{◌≡◌, fold, take}
use Rattle.moves.specs.Listed.{numbers_of}
use Rattle.moves.specs.Step.{AreKeysOf}
use Rattle.moves.proofs.Seen.{seen_with}
use Rattle.moves.proofs.listing.all_numbers_of.Given as goal

-- the numbers behind all causes and the first rows, and their keys
abbrev pub invariant-loop-k : goal.invariant-loop-k
invariant-loop-k l = record {
  numbers : l.seen.items ≡ fold (seen_with l.drawn) (numbers_of l.drawn) (take l.k l.drawn.rows);
  keys : AreKeysOf l.seen.items l.keys;
}
