-- Ends that are a range.
use Rattle.std.proofs.Common.{◌≡◌, false, Option, Some, None, IfSome, arith}
use Rattle.std.specs.Prelude.{ℤ, ◌≤ℤ◌}
use Rattle.std.proofs.lemmas.Int.{ints}
use Rattle.itv_base.specs.Range.{Ends, IsEnd, IsRange, has_wide, is_above, is_reversed, is_wide}
use Rattle.itv_base.proofs.Bools.{both_false}

pub is_end : (end : Option ℤ) → is_wide end ≡ false → IsEnd end
is_end None narrow = tt
is_end (Some value) narrow = grind (arith, ints)

pub is_ordered : (low high : Option ℤ) → is_above low high ≡ false → IfSome low (λ l. IfSome high (λ h. l ≤ℤ h))
is_ordered None high ordered = tt
is_ordered (Some low) None ordered = tt
is_ordered (Some low) (Some high) ordered = grind (arith, ints)

-- ends that are within the limit and not the wrong way round are a range
pub is_range : (ends : Ends) → has_wide ends ≡ false → is_reversed ends ≡ false → IsRange ends
is_range ends narrow ordered =
    let both = both_false (is_wide ends.low) (is_wide ends.high) narrow in (is_end ends.low both.0, is_end ends.high both.1, is_ordered ends.low ends.high ordered)
