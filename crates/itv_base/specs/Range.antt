-- Ranges of whole numbers of picoseconds, each end of which may be open.
use Rattle.std.specs.Prelude.{ℤ, neg_ℤ, ◌≤ℤ◌, Bool, false, ◌||◌, Option, Some, None, IfSome, int_lt}
use Rattle.itv_base.specs.declared.limits.TheConstants.{END_LIMIT}

-- the two ends; an end that is `None` is open
pub record Ends : Type 0 where
  pub low : Option ℤ
  pub high : Option ℤ

-- a number lies in a range if each end that is not open allows it
abbrev pub Allows : Ends → ℤ → Type 0
Allows ends value = IfSome ends.low (λ low. low ≤ℤ value) × IfSome ends.high (λ high. value ≤ℤ high)

-- a finite end is within the limit in absolute value
abbrev pub IsEnd : Option ℤ → Type 0
IsEnd end = IfSome end (λ value. (neg_ℤ END_LIMIT ≤ℤ value) × (value ≤ℤ END_LIMIT))

-- the ends of a range: both within the limit, and the low one not above the high one
abbrev pub IsRange : Ends → Type 0
IsRange ends = IsEnd ends.low × IsEnd ends.high × IfSome ends.low (λ low. IfSome ends.high (λ high. low ≤ℤ high))

-- the end is finite and beyond the limit in absolute value
abbrev pub is_wide : Option ℤ → Bool
is_wide None = false
is_wide (Some value) = int_lt value (neg_ℤ END_LIMIT) || int_lt END_LIMIT value

-- the low end is above the high end
abbrev pub is_above : Option ℤ → Option ℤ → Bool
is_above None high = false
is_above (Some low) None = false
is_above (Some low) (Some high) = int_lt high low

-- the low end of the two is above the high one
abbrev pub is_reversed : Ends → Bool
is_reversed ends = is_above ends.low ends.high

-- an end of the two is beyond the limit
abbrev pub has_wide : Ends → Bool
has_wide ends = is_wide ends.low || is_wide ends.high
