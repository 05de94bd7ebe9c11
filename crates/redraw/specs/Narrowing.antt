-- Narrowed times: what lies between times and is far from all of them is left out.
use Rattle.std.specs.Prelude.{◌≡◌, ◌⊎◌, ◌<◌, ◌+◌, ℕ, zero, suc, ℤ, pos, negsuc, ◌+ℤ◌, ◌-ℤ◌, ◌≤ℤ◌, unsigned_abs, int_le, int_lt, Bool, ◌&&◌, if◌then◌else◌, List, [], ◌∷◌, length, map, fold, All, slice_index_or}
use Rattle.std.specs.List.{list_any}
use Rattle.itv_base.specs.declared.limits.TheConstants.{END_LIMIT}

-- the greatest gap that is kept, in picoseconds
abbrev pub widest_gap : ℕ
widest_gap = unsigned_abs END_LIMIT

-- a number, or 0 if it is below 0
abbrev pub natural_part : ℤ → ℕ
natural_part (pos n) = n
natural_part (negsuc n) = 0

abbrev pub lesser : ℤ → ℤ → ℤ
lesser a b = if int_le a b then a else b

-- the least of some times
abbrev pub least : List ℤ → ℤ
least [] = pos 0
least (time ∷ times) = fold lesser time times

-- a number is a time, or is after a time by less than the width
abbrev pub follows : ℕ → ℤ → ℤ → Bool
follows width number time = int_le time number && int_lt number (time +ℤ pos width)

-- how many numbers follow some time, of so many from this one on
abbrev pub follow_count : ℕ → List ℤ → ℤ → ℕ → ℕ
follow_count width times from zero = 0
follow_count width times from (suc count) =
    follow_count width times from count + (if list_any (follows width (from +ℤ pos count)) times then 1 else 0)

-- a narrowed time: how many numbers follow some time, of the numbers from the least time to just before this one
abbrev pub narrowed_time : ℕ → List ℤ → ℤ → ℤ
narrowed_time width times time = pos (follow_count width times (least times) (natural_part (time -ℤ least times)))

-- all times narrowed: each gap between neighbouring times that is greater than the width becomes the width
unfoldable pub narrowed : ℕ → List ℤ → List ℤ
narrowed width times = map (narrowed_time width times) times

-- two values between which no time lies
abbrev pub AreNeighbours : List ℤ → ℤ → ℤ → Type 0
AreNeighbours times lower upper = (lower ≤ℤ upper) × All (λ (time : ℤ). (time ≤ℤ lower) ⊎ (upper ≤ℤ time)) times

-- a gap between neighbouring times becomes the width if it was greater, and otherwise it stays
pub record HasGapsWithin (width : ℕ) (times others : List ℤ) : Type 0 where
  pub count : length others ≡ length times
  pub gaps : (i j : ℕ) → i < length times → j < length times → AreNeighbours times (slice_index_or times i (pos 0)) (slice_index_or times j (pos 0))
      → (slice_index_or others j (pos 0) -ℤ slice_index_or others i (pos 0)) ≡ lesser (slice_index_or times j (pos 0) -ℤ slice_index_or times i (pos 0)) (pos width)
