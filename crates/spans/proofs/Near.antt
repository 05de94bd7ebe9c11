-- Values near the drawn one.
use Rattle.std.proofs.Common.{◌≡◌, ◌≤◌, ◌⊎◌, inl, inr, ℕ, ℤ, pos, neg_ℤ, ◌+ℤ◌, ◌≤ℤ◌, sym, subst, arith}
use Rattle.std.proofs.lemmas.Int.{by_lt_z, ints}
use Rattle.itv_base.specs.declared.limits.TheConstants.{MAX_BUDGET}
use Rattle.moves.specs.Found.{FailsNear}
use Rattle.moves.specs.Passing.{Passes}
use Rattle.moves.specs.Step.{lent}
use Rattle.moves.specs.declared.net_found.NetFound.{NetFound}
use Rattle.moves.proofs.Each.{shifted_by_nothing}
use Rattle.spans.specs.Step.{CanShift, IsFurther, IsNearGoal, IsNearFound, IsOn, IsPast, IsWithinReach, IsShort, IsShownTo, IsSought, IsSpanStart, at_value, farthest, limit_of, on_of, outward}
use Rattle.spans.specs.declared.advance.Shortfall.TheVariants as shorts
use Rattle.spans.specs.declared.direction.Direction.{Direction}
use Rattle.spans.specs.declared.direction.Direction.TheVariants.{Down, Up}
use Rattle.spans.specs.declared.direction.Value.{Value}
use Rattle.spans.specs.declared.nearby.Nearby.TheVariants as nearby
use Rattle.spans.specs.declared.sought.SpanAim.TheVariants as aims
use Rattle.spans.specs.declared.sought.SpanSought.{SpanSought}
use Rattle.spans.proofs.Found.{stop_passes}
use Rattle.spans.proofs.Reaching.{limit_last, reached_between}
use Rattle.spans.proofs.Ways.{next_on, on_next, on_past, on_through, within_further}

on_or_past : (d : Direction) (a b : ℤ) → IsOn d a b ⊎ IsPast d b a
on_or_past Down a b = by_lt_z a b (λ lt. inr lt) (λ le. inl le)
on_or_past Up a b = by_lt_z b a (λ lt. inr lt) (λ le. inl le)

-- the budget says less than the farthest value
not_beyond : (d : Direction) (value : ℤ) (budget : ℕ) → budget ≤ MAX_BUDGET → IsPast d (farthest d) value → outward d value ≤ℤ pos budget → ⊥
not_beyond Down value budget few past near = omega (arith, ints, few, past, near)
not_beyond Up value budget few past near = omega (arith, ints, few, past, near)

near_none : (d : Direction) (value : ℤ) (count : ℕ) → outward d value ≤ℤ pos count → outward d value ≤ℤ (outward d (pos 0) +ℤ pos count)
near_none Down value count near = omega (arith, ints, near)
near_none Up value count near = omega (arith, ints, near)

module _ (sought : SpanSought) (is : IsSought sought) (d : Direction) where
  -- all values up to the goal were shown
  pub fails_reached : (goal : ℤ) → IsNearGoal sought d goal → IsShownTo sought aims.Failing d (pos 0) goal → IsNearFound sought d nearby.Fails
  fails_reached goal near shown = λ value past few can passes. by_way value past few can passes (on_or_past d value (limit_of d sought.reach).by)
    where
      beyond : (value : ℤ) → outward d value ≤ℤ pos sought.budget → CanShift sought.drawn.now (lent sought.numbers.now) value
          → ((v : ℤ) → IsPast d (limit_of d sought.reach).by v → CanShift sought.drawn.now (lent sought.numbers.now) v → ⊥) ⊎ ((limit_of d sought.reach).by ≡ farthest d)
          → IsPast d (limit_of d sought.reach).by value → ⊥
      beyond value few can (inl none) past = none value past can
      beyond value few can (inr far) past = not_beyond d value sought.budget is.most (subst (λ (v : ℤ). IsPast d v value) far past) few

      by_way : (value : ℤ) → IsPast d (pos 0) value → outward d value ≤ℤ pos sought.budget → CanShift sought.drawn.now (lent sought.numbers.now) value → Passes (at_value sought value)
          → IsOn d value (limit_of d sought.reach).by ⊎ IsPast d (limit_of d sought.reach).by value → ⊥
      by_way value past few can passes (inl on) = shown.each value past (near value (on_past d (pos 0) value past) few on) passes
      by_way value past few can passes (inr beyond_limit) = beyond value few can (limit_last sought is d).beyond beyond_limit

  -- as many values were shown as the budget says
  pub fails_further : (last : ℤ) → IsShownTo sought aims.Failing d (pos 0) last → IsFurther d (pos 0) sought.budget last → IsNearFound sought d nearby.Fails
  fails_further last shown far = λ value past few can passes.
      shown.each value past (within_further d (pos 0) last value sought.budget far (near_none d value sought.budget few)) passes

-- a value between the drawn one and one with which a span may be begun
pub start_between : (d : Direction) (value goal : ℤ) → IsOn d (pos 0) value → IsOn d value goal → IsSpanStart goal → IsSpanStart value
start_between Down value goal before within start = let least = start.0 in (omega (arith, ints, least, within), omega (arith, ints, before))
start_between Up value goal before within start = let most = start.1 in (omega (arith, ints, before), omega (arith, ints, most, within))

down_few : (value : ℤ) (count : ℕ) → neg_ℤ (pos count) ≤ℤ value → neg_ℤ value ≤ℤ pos count
down_few value count low = omega (arith, ints, low)

-- near the drawn value no value passes, nor does the drawn one
pub fails_near : (sought : SpanSought) → (Passes sought.drawn.now → ⊥) → IsNearFound sought Up nearby.Fails → IsNearFound sought Down nearby.Fails
    → FailsNear sought.drawn.now (lent sought.numbers.now) sought.budget
fails_near sought own above below = λ by low high can passes.
    by_lt_z by (pos 0) (λ lt. below by lt (down_few by sought.budget low) can passes)
    (λ le. by_lt_z (pos 0) by (λ lt. above by lt high can passes)
    (λ ge.
    let same : by ≡ pos 0 = omega (arith, ints, le, ge) in
    own
    (subst Passes (shifted_by_nothing sought.drawn.now (lent sought.numbers.now)) (subst (λ (v : ℤ). Passes (at_value sought v)) same passes))))

-- the value where what shows that nothing passes stops
pub passes_at : (sought : SpanSought) (d : Direction) (goal last : ℤ) (next : Value) (found : NetFound) → IsWithinReach sought goal → IsSpanStart goal
    → IsShort sought aims.Failing d (pos 0) (shorts.Stops (record { by = last }) found) → IsPast d last goal → next.by ≡ (last +ℤ on_of d) → IsNearFound sought d (nearby.Passes next)
passes_at sought d goal last next found reached start short past same =
    let on : IsOn d (last +ℤ on_of d) goal = next_on d last goal past in
    let before : IsOn d (pos 0) (last +ℤ on_of d) = on_through d (pos 0) last (last +ℤ on_of d) short.0.before (on_next d last) in
    subst (λ (v : ℤ). IsWithinReach sought v × IsSpanStart v × Passes (at_value sought v)) (sym same) (
      reached_between sought d last (last +ℤ on_of d) goal short.0.reached reached (on_next d last) on,
      start_between d (last +ℤ on_of d) goal before on start,
      stop_passes (at_value sought (last +ℤ on_of d)) found short.1 short.2,
    )
