-- Elements taken one by one, and names looked up one by one.
use Rattle.std.proofs.Common.{◌≡◌, ℕ, ◌+◌, Bool, ◌||◌, List, drop, Some, refl}
use Rattle.std.specs.Prelude.{slice_get}
use Rattle.std.specs.List.{list_any}
use Rattle.itv_base.proofs.Lists.{drop-read}

-- whether an element that is left passes a test, by the next element
pub any_step : {X : Type 0} (p : X → Bool) (xs : List X) (k : ℕ) (x : X) (b : Bool) → slice_get xs k ≡ Some x → p x ≡ b → list_any p (drop k xs) ≡ (b || list_any p (drop (k + 1) xs))
any_step p xs k x b read is = rw (drop-read xs k x read, is) refl
