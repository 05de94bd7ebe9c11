use Rattle.std.proofs.Common.{◌≡◌, ◌<◌, ◌≤ℤ◌, ℕ, pos, true, false, get_or, Some, slice_get}
use Rattle.diff_bounds.specs.Limits.{IsTimely}
use Rattle.branch.proofs.raise.rise.Given as goal

-- no event of the set so far is below the lowest, and no other one above the highest
abbrev pub invariant-loop-event : goal.invariant-loop-event
invariant-loop-event l = record {
  highest : IsTimely l.span.highest;
  lowest : IsTimely l.span.lowest;
  others : (k : ℕ) → k < l.event → slice_get l.set k ≡ Some false → get_or l.times k (pos 0) ≤ℤ l.span.highest;
  set : (k : ℕ) → k < l.event → slice_get l.set k ≡ Some true → l.span.lowest ≤ℤ get_or l.times k (pos 0);
}
