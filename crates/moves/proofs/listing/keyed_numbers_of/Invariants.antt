use Rattle.std.proofs.Common.{◌≡◌, [], fold, take, zip}
use Rattle.moves.specs.Listed.{with_causes}
use Rattle.moves.specs.Step.{AreKeysOf}
use Rattle.moves.proofs.listing.keyed_numbers_of.Given as goal

-- the numbers behind the causes of the first constraints, and their keys
abbrev pub invariant-loop-constraint : goal.invariant-loop-constraint
invariant-loop-constraint l = record {
  numbers : l.seen.items ≡ fold (with_causes l.drawn) [] (take l.constraint (zip l.drawn.net.constraints l.drawn.origins));
  keys : AreKeysOf l.seen.items l.keys;
}
