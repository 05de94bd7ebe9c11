-- How far two moves are apart, as a measure.
use Rattle.std.proofs.Common.{◌<◌, ℕ, ℤ, ◌-ℤ◌, ◌≤ℤ◌, ◌<ℤ◌, arith}
use Rattle.std.specs.Prelude.{unsigned_abs}
use Rattle.std.proofs.lemmas.Int.{ints}
use Rattle.itv_base.proofs.Integers.{abs_less}

-- how far the second number is above the first
abbrev pub apart : ℤ → ℤ → ℕ
apart least most = unsigned_abs (most -ℤ least)

pub closer : (least most next last : ℤ) → next ≤ℤ last → (last -ℤ next) <ℤ (most -ℤ least) → apart next last < apart least most
closer least most next last order less = abs_less (last -ℤ next) (most -ℤ least) (omega (arith, ints, order)) less

pub higher : (least next most : ℤ) → least <ℤ next → next ≤ℤ most → apart next most < apart least most
higher least next most less order = closer least most next most order (omega (arith, ints, less))
