use Rattle.std.proofs.Common.{◌≡◌, ◌+◌, ◌≤◌, length, vec_capacity}
use Rattle.chains.proofs.Following.{IsUnderway}
use Rattle.chains.proofs.follow.follow.Given as goal

-- the edges that were taken were followed, and there is room for the edges that are left
abbrev pub invariant-loop-name : goal.invariant-loop-name
invariant-loop-name l = record {
  way : IsUnderway l.net l.fn.from l.fn.spread.found l.spread.found l.names.items l.at;
  reached : l.spread.reached ≡ l.fn.spread.reached;
  capacity : vec_capacity l.names ≡ vec_capacity l.fn.names;
  room : length l.names.items + length l.spread.found ≤ length l.fn.spread.reached;
}

abbrev pub decreases-loop-name : goal.decreases-loop-name
decreases-loop-name l = length l.spread.found
