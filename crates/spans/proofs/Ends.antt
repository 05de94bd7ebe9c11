-- Ends of ranges that frame an end with all values of an interval.
use Rattle.std.proofs.Common.{◌≡◌, ℤ, neg_ℤ, ◌+ℤ◌, ◌-ℤ◌, ◌≤ℤ◌, Bool, true, false, IfSome, IfOk, IsSomeAnd, Option, Some, None, Ok, Err, Result, sym, subst, arith}
use Rattle.std.specs.Result.{result_ok}
use lib.IntN.{◌*ℤ◌}
use Rattle.std.proofs.lemmas.Int.{ints}
use Rattle.itv_base.specs.Range.{Allows, Ends}
use Rattle.itv_base.specs.declared.range.RangeFault.{RangeFault}
use Rattle.itv_base.specs.declared.row_kind.RowKind.TheVariants as kinds
use Rattle.event_graph.specs.Widening.{IsHigherEnd, IsLowerEnd}
use Rattle.moves.proofs.Covering.{free_offset, own_offset}
use Rattle.spans.specs.Step.{IsFramedKind, IsFramedRange, IsWithinRange, kind_at, range_at, times_by, wanting}
use Rattle.spans.specs.declared.framed_range.FrameKind.{FrameKind}
use Rattle.spans.specs.declared.framed_range.FrameKind.TheVariants as frames

low_own : (w l a x s v : ℤ) → x ≡ (v -ℤ s) → w ≤ℤ (l +ℤ a) → a ≤ℤ x → w ≤ℤ ((l +ℤ v) +ℤ neg_ℤ s)
low_own w l a x s v e h g = omega (arith, ints, e, h, g)

low_free : (w l a x s : ℤ) → x ≡ neg_ℤ s → w ≤ℤ (l +ℤ a) → a ≤ℤ x → w ≤ℤ (l +ℤ neg_ℤ s)
low_free w l a x s e h g = omega (arith, ints, e, h, g)

high_own : (w l a x s v : ℤ) → x ≡ (v -ℤ s) → (l +ℤ a) ≤ℤ w → x ≤ℤ a → ((l +ℤ v) +ℤ neg_ℤ s) ≤ℤ w
high_own w l a x s v e h g = omega (arith, ints, e, h, g)

high_free : (w l a x s : ℤ) → x ≡ neg_ℤ s → (l +ℤ a) ≤ℤ w → x ≤ℤ a → (l +ℤ neg_ℤ s) ≤ℤ w
high_free w l a x s e h g = omega (arith, ints, e, h, g)

module _ (apart value : ℤ) where
  -- ---- covers

  low_covers : (is_drawn : Bool) (low high add wide : Option ℤ) → IfSome wide (λ w. IsSomeAnd low (λ l. IsSomeAnd add (λ a. w ≤ℤ (l +ℤ a))))
      → IfSome add (λ a. a ≤ℤ (times_by is_drawn apart *ℤ value)) → IsLowerEnd (range_at is_drawn apart value (record { low = low; high = high })).low wide
  low_covers is_drawn low high add None h g = tt
  low_covers is_drawn None high add (Some w) h g = absurd h
  low_covers is_drawn (Some l) high None (Some w) h g = absurd h
  low_covers true (Some l) high (Some a) (Some w) h g = low_own w l a _ (apart *ℤ value) value (own_offset apart value) h g
  low_covers false (Some l) high (Some a) (Some w) h g = low_free w l a _ (apart *ℤ value) (free_offset apart value) h g

  high_covers : (is_drawn : Bool) (low high add wide : Option ℤ) → IfSome wide (λ w. IsSomeAnd high (λ l. IsSomeAnd add (λ a. (l +ℤ a) ≤ℤ w)))
      → IfSome add (λ a. (times_by is_drawn apart *ℤ value) ≤ℤ a) → IsHigherEnd (range_at is_drawn apart value (record { low = low; high = high })).high wide
  high_covers is_drawn low high add None h g = tt
  high_covers is_drawn low None add (Some w) h g = absurd h
  high_covers is_drawn low (Some l) None (Some w) h g = absurd h
  high_covers true low (Some l) (Some a) (Some w) h g = high_own w l a _ (apart *ℤ value) value (own_offset apart value) h g
  high_covers false low (Some l) (Some a) (Some w) h g = high_free w l a _ (apart *ℤ value) (free_offset apart value) h g

  -- ---- cores

  low_within : (is_drawn : Bool) (low high add tight : Option ℤ) → IfSome low (λ l. IsSomeAnd tight (λ t. IsSomeAnd add (λ a. (l +ℤ a) ≤ℤ t)))
      → IfSome add (λ a. (times_by is_drawn apart *ℤ value) ≤ℤ a) → IsLowerEnd tight (range_at is_drawn apart value (record { low = low; high = high })).low
  low_within true None high add tight h g = tt
  low_within false None high add tight h g = tt
  low_within is_drawn (Some l) high add None h g = absurd h
  low_within is_drawn (Some l) high None (Some t) h g = absurd h
  low_within true (Some l) high (Some a) (Some t) h g = high_own t l a _ (apart *ℤ value) value (own_offset apart value) h g
  low_within false (Some l) high (Some a) (Some t) h g = high_free t l a _ (apart *ℤ value) (free_offset apart value) h g

  high_within : (is_drawn : Bool) (low high add tight : Option ℤ) → IfSome high (λ l. IsSomeAnd tight (λ t. IsSomeAnd add (λ a. t ≤ℤ (l +ℤ a))))
      → IfSome add (λ a. a ≤ℤ (times_by is_drawn apart *ℤ value)) → IsHigherEnd tight (range_at is_drawn apart value (record { low = low; high = high })).high
  high_within true low None add tight h g = tt
  high_within false low None add tight h g = tt
  high_within is_drawn low (Some l) add None h g = absurd h
  high_within is_drawn low (Some l) None (Some t) h g = absurd h
  high_within true low (Some l) (Some a) (Some t) h g = low_own t l a _ (apart *ℤ value) value (own_offset apart value) h g
  high_within false low (Some l) (Some a) (Some t) h g = low_free t l a _ (apart *ℤ value) (free_offset apart value) h g

-- a multiple that is given for each value of an interval, at a value
at_value_le : (In : ℤ → Type 0) (add : Option ℤ) (F : ℤ → ℤ) → IfSome add (λ a. (v : ℤ) → In v → a ≤ℤ F v) → (v : ℤ) → In v → IfSome add (λ a. a ≤ℤ F v)
at_value_le In None F h v within = tt
at_value_le In (Some a) F h v within = h v within

at_value_ge : (In : ℤ → Type 0) (add : Option ℤ) (F : ℤ → ℤ) → IfSome add (λ a. (v : ℤ) → In v → F v ≤ℤ a) → (v : ℤ) → In v → IfSome add (λ a. F v ≤ℤ a)
at_value_ge In None F h v within = tt
at_value_ge In (Some a) F h v within = h v within

pub range_covers : (In : ℤ → Type 0) (apart : ℤ) (is_drawn : Bool) (times : ℤ) (range wide : Ends) (least most : Option ℤ) → times ≡ times_by is_drawn apart
    → IfSome wide.low (λ w. IsSomeAnd range.low (λ l. IsSomeAnd least (λ a. w ≤ℤ (l +ℤ a))))
    → IfSome wide.high (λ w. IsSomeAnd range.high (λ l. IsSomeAnd most (λ a. (l +ℤ a) ≤ℤ w)))
    → IfSome least (λ a. (v : ℤ) → In v → a ≤ℤ (times *ℤ v)) → IfSome most (λ a. (v : ℤ) → In v → (times *ℤ v) ≤ℤ a)
    → (v : ℤ) → In v → IsWithinRange (range_at is_drawn apart v range) wide
range_covers In apart is_drawn times range wide least most is low high at_least at_most v within =
    let first : IfSome least (λ a. a ≤ℤ (times_by is_drawn apart *ℤ v)) =
    rw is at (at_value_le In least (λ u. times *ℤ u) at_least v within) in
    let last : IfSome most (λ a. (times_by is_drawn apart *ℤ v) ≤ℤ a) =
    rw is at (at_value_ge In most (λ u. times *ℤ u) at_most v within) in
    (low_covers apart v is_drawn range.low range.high least wide.low low first, high_covers apart v is_drawn range.low range.high most wide.high high last)

pub range_tight : (In : ℤ → Type 0) (apart : ℤ) (is_drawn : Bool) (times : ℤ) (range tight : Ends) (least most : Option ℤ) → times ≡ times_by is_drawn apart
    → IfSome range.low (λ l. IsSomeAnd tight.low (λ t. IsSomeAnd most (λ a. (l +ℤ a) ≤ℤ t)))
    → IfSome range.high (λ l. IsSomeAnd tight.high (λ t. IsSomeAnd least (λ a. t ≤ℤ (l +ℤ a))))
    → IfSome least (λ a. (v : ℤ) → In v → a ≤ℤ (times *ℤ v)) → IfSome most (λ a. (v : ℤ) → In v → (times *ℤ v) ≤ℤ a)
    → (v : ℤ) → In v → IsWithinRange tight (range_at is_drawn apart v range)
range_tight In apart is_drawn times range tight least most is low high at_least at_most v within =
    let first : IfSome least (λ a. a ≤ℤ (times_by is_drawn apart *ℤ v)) =
    rw is at (at_value_le In least (λ u. times *ℤ u) at_least v within) in
    let last : IfSome most (λ a. (times_by is_drawn apart *ℤ v) ≤ℤ a) =
    rw is at (at_value_ge In most (λ u. times *ℤ u) at_most v within) in
    (low_within apart v is_drawn range.low range.high most tight.low low last, high_within apart v is_drawn range.low range.high least tight.high high first)

-- a range that was made of two ends, if it was made
pub kept_range : (answer : Result Ends RangeFault) (kept : Option Ends) (ends : Ends) (P : Ends → Type 0) → kept ≡ result_ok answer → IfOk answer (λ r. r ≡ ends) → P ends → IfSome kept P
kept_range (Ok r) kept ends P is made here = let Q : Option Ends → Type 0 = λ o. IfSome o P in subst Q (sym is) (subst P (sym made) here)
kept_range (Err e) kept ends P is made here = let Q : Option Ends → Type 0 = λ o. IfSome o P in subst Q (sym is) tt

-- ---- what rows want

allows_low : (low wide : Option ℤ) (x : ℤ) → IsLowerEnd low wide → IfSome low (λ l. l ≤ℤ x) → IfSome wide (λ l. l ≤ℤ x)
allows_low low None x lower h = tt
allows_low None (Some w) x lower h = absurd lower
allows_low (Some l) (Some w) x lower h = omega (arith, ints, lower, h)

allows_high : (high wide : Option ℤ) (x : ℤ) → IsHigherEnd high wide → IfSome high (λ h. x ≤ℤ h) → IfSome wide (λ h. x ≤ℤ h)
allows_high high None x higher h = tt
allows_high None (Some w) x higher h = absurd higher
allows_high (Some l) (Some w) x higher h = omega (arith, ints, higher, h)

allows_wider : (range wide : Ends) (x : ℤ) → IsWithinRange range wide → Allows range x → Allows wide x
allows_wider range wide x within allowed = (allows_low range.low wide.low x within.0 allowed.0, allows_high range.high wide.high x within.1 allowed.1)

-- what is wanted by a requirement of a frame
pub kind_framed : (frame kind : FrameKind) (is_drawn : Bool) (apart value : ℤ) (range framed : Ends) (x : ℤ) → kind ≡ wanting frame
    → IsFramedRange kind (range_at is_drawn apart value range) framed → IsFramedKind frame (kind_at is_drawn apart value (kinds.Req range)) (kinds.Req framed) x
kind_framed frame kind is_drawn apart value range framed x is within =
    by_frame frame is_drawn (subst (λ (k : FrameKind). IsFramedRange k (range_at is_drawn apart value range) framed) is within)
  where
    by_frame : (f : FrameKind) (b : Bool) → IsFramedRange (wanting f) (range_at b apart value range) framed → IsFramedKind f (kind_at b apart value (kinds.Req range)) (kinds.Req framed) x
    by_frame frames.Cover true h = allows_wider framed (range_at true apart value range) x h
    by_frame frames.Cover false h = allows_wider framed (range_at false apart value range) x h
    by_frame frames.Core true h = allows_wider (range_at true apart value range) framed x h
    by_frame frames.Core false h = allows_wider (range_at false apart value range) framed x h

-- a question wants nothing
pub ask_framed : (frame : FrameKind) (is_drawn : Bool) (apart value x : ℤ) → IsFramedKind frame (kind_at is_drawn apart value kinds.Ask) kinds.Ask x
ask_framed frames.Cover true apart value x = λ h. tt
ask_framed frames.Cover false apart value x = λ h. tt
ask_framed frames.Core true apart value x = λ h. tt
ask_framed frames.Core false apart value x = λ h. tt
