-- Multiples of the values of an interval.
use Rattle.std.proofs.Common.{◌≡◌, true, false, ℤ, pos, negsuc, neg_ℤ, ◌≤ℤ◌, IfSome, Option, Some, sym, subst, ◌∙◌, arith}
use lib.IntN.{◌*ℤ◌, *ℤ_comm}
use lib.Signed.{lt_z}
use mir.Syntax.{w64}
use mir.Val.{SFits, of_z, to_z}
use Rattle.std.proofs.lemmas.Int.{by_lt_z, ints, to_z-of_z}
use Rattle.moves.proofs.Products.{falls, rises, zero_times}
use Rattle.moves.specs.Step.{IsMoveBy}
use Rattle.spans.specs.Step.{IsCountStep, IsUnwrapped, IsValue}
use Rattle.itv_base.proofs.Integers.{through}

equal_le : (x y : ℤ) → x ≡ y → x ≤ℤ y
equal_le x y e = omega (arith, ints, e)

-- a multiple that is not negative rises with the value
pub rising : (k a b : ℤ) → pos 0 ≤ℤ k → a ≤ℤ b → (k *ℤ a) ≤ℤ (k *ℤ b)
rising (pos n) a b some le = rises n a b le
rising (negsuc n) a b some le = absurd (omega (arith, ints, some))

-- and one that is not positive falls
pub falling : (k a b : ℤ) → k ≤ℤ pos 0 → a ≤ℤ b → (k *ℤ b) ≤ℤ (k *ℤ a)
falling (pos n) a b none le =
    let zero_n : n ≡ 0 = omega (arith, ints, none) in
    subst (λ m. (pos m *ℤ b) ≤ℤ (pos m *ℤ a)) (sym zero_n) (equal_le (pos 0 *ℤ b) (pos 0 *ℤ a) (zero_times b ∙ sym (zero_times a)))
falling (negsuc n) a b none le = falls n a b le

-- ---- bounds

abbrev greatest_value : ℤ
greatest_value = pos 40000000000001

abbrev greatest_step : ℤ
greatest_step = pos 32769

-- a product with a number that is not negative
rising_small : (t v : ℤ) → pos 0 ≤ℤ t → t ≤ℤ greatest_step → neg_ℤ greatest_value ≤ℤ v → v ≤ℤ greatest_value → IsUnwrapped (t *ℤ v)
rising_small t v some few low high =
    let up : (greatest_value *ℤ t) ≤ℤ (greatest_value *ℤ greatest_step) = rising greatest_value t greatest_step (omega (arith, ints)) few in
    let down : (neg_ℤ greatest_value *ℤ greatest_step) ≤ℤ (neg_ℤ greatest_value *ℤ t) = falling (neg_ℤ greatest_value) t greatest_step (omega (arith, ints)) few in
    let above : (t *ℤ v) ≤ℤ (greatest_value *ℤ t) = subst (λ (z : ℤ). (t *ℤ v) ≤ℤ z) (*ℤ_comm t greatest_value) (rising t v greatest_value some high) in
    let below : (neg_ℤ greatest_value *ℤ t) ≤ℤ (t *ℤ v) = subst (λ (z : ℤ). z ≤ℤ (t *ℤ v)) (*ℤ_comm t (neg_ℤ greatest_value)) (rising t (neg_ℤ greatest_value) v some low) in (
      through (neg_ℤ (pos 2000000000000000000)) (neg_ℤ greatest_value *ℤ t) (t *ℤ v) (through (neg_ℤ (pos 2000000000000000000)) (neg_ℤ greatest_value *ℤ greatest_step) (neg_ℤ greatest_value *ℤ t) (omega (arith, ints)) down) below,
      through (t *ℤ v) (greatest_value *ℤ t) (pos 2000000000000000000) above (through (greatest_value *ℤ t) (greatest_value *ℤ greatest_step) (pos 2000000000000000000) up (omega (arith, ints))),
    )

-- and with one that is not positive
falling_small : (t v : ℤ) → t ≤ℤ pos 0 → neg_ℤ greatest_step ≤ℤ t → neg_ℤ greatest_value ≤ℤ v → v ≤ℤ greatest_value → IsUnwrapped (t *ℤ v)
falling_small t v none few low high =
    let down : (greatest_value *ℤ neg_ℤ greatest_step) ≤ℤ (greatest_value *ℤ t) = rising greatest_value (neg_ℤ greatest_step) t (omega (arith, ints)) few in
    let up : (neg_ℤ greatest_value *ℤ t) ≤ℤ (neg_ℤ greatest_value *ℤ neg_ℤ greatest_step) = falling (neg_ℤ greatest_value) (neg_ℤ greatest_step) t (omega (arith, ints)) few in
    let below : (greatest_value *ℤ t) ≤ℤ (t *ℤ v) = subst (λ (z : ℤ). z ≤ℤ (t *ℤ v)) (*ℤ_comm t greatest_value) (falling t v greatest_value none high) in
    let above : (t *ℤ v) ≤ℤ (neg_ℤ greatest_value *ℤ t) = subst (λ (z : ℤ). (t *ℤ v) ≤ℤ z) (*ℤ_comm t (neg_ℤ greatest_value)) (falling t (neg_ℤ greatest_value) v none low) in (
      through (neg_ℤ (pos 2000000000000000000)) (greatest_value *ℤ t) (t *ℤ v) (through (neg_ℤ (pos 2000000000000000000)) (greatest_value *ℤ neg_ℤ greatest_step) (greatest_value *ℤ t) (omega (arith, ints)) down) below,
      through (t *ℤ v) (neg_ℤ greatest_value *ℤ t) (pos 2000000000000000000) above
          (through (neg_ℤ greatest_value *ℤ t) (neg_ℤ greatest_value *ℤ neg_ℤ greatest_step) (pos 2000000000000000000) up (omega (arith, ints))),
    )

-- a multiple of a value is far from wrapping
pub product_small : (t v : ℤ) → IsCountStep t → IsValue v → IsUnwrapped (t *ℤ v)
product_small t v steps value =
    by_lt_z t (pos 0) (λ lt. falling_small t v (omega (arith, ints, lt)) steps.0 value.0 value.1) (λ le. rising_small t v le steps.1 value.0 value.1)

pub small_fits : (z : ℤ) → IsUnwrapped z → SFits w64 z
small_fits (pos n) h = let high = h.1 in record { sfits = omega (arith, ints) }
small_fits (negsuc n) h = let low = h.0 in record { sfits = omega (arith, ints) }

pub product_is : (t v : ℤ) → SFits w64 t → SFits w64 v → IsUnwrapped (t *ℤ v) → to_z w64 (of_z w64 (to_z w64 (of_z w64 t) *ℤ to_z w64 (of_z w64 v))) ≡ (t *ℤ v)
product_is t v t_fits v_fits small = rw (to_z-of_z w64 t t_fits, to_z-of_z w64 v v_fits) (to_z-of_z w64 (t *ℤ v) (small_fits (t *ℤ v) small))

-- the multiple of an end of an interval is the greatest one, or the least one
pub greatest_by : (t v e r : ℤ) → r ≡ (t *ℤ e) → IsUnwrapped r → (t *ℤ v) ≤ℤ (t *ℤ e) → (t *ℤ v) ≤ℤ to_z w64 (of_z w64 r)
greatest_by t v e r is small le = rw (to_z-of_z w64 r (small_fits r small)) (omega (arith, ints, is, le))

pub least_by : (t v e r : ℤ) → r ≡ (t *ℤ e) → IsUnwrapped r → (t *ℤ e) ≤ℤ (t *ℤ v) → to_z w64 (of_z w64 r) ≤ℤ (t *ℤ v)
least_by t v e r is small le = rw (to_z-of_z w64 r (small_fits r small)) (omega (arith, ints, is, le))

-- ---- numbers that are passed

pub as_passed : (P : ℤ → Type 0) (x : ℤ) → SFits w64 x → P (to_z w64 (of_z w64 x)) → P x
as_passed P x fits h = subst P (to_z-of_z w64 x fits) h

pub to_passed : (P : ℤ → Type 0) (x : ℤ) → SFits w64 x → P x → P (to_z w64 (of_z w64 x))
to_passed P x fits h = subst P (sym (to_z-of_z w64 x fits)) h

pub value_fits : (z : ℤ) → IsValue z → SFits w64 z
value_fits (pos n) h = let high = h.1 in record { sfits = omega (arith, ints) }
value_fits (negsuc n) h = let low = h.0 in record { sfits = omega (arith, ints) }

pub move_fits : (z : ℤ) → IsMoveBy z → SFits w64 z
move_fits (pos n) h = let high = h.1 in record { sfits = omega (arith, ints) }
move_fits (negsuc n) h = let low = h.0 in record { sfits = omega (arith, ints) }

below_zero : (z : ℤ) → lt_z z (pos 0) ≡ true → z ≤ℤ pos 0
below_zero z h = omega (arith, ints)

not_below_zero : (z : ℤ) → lt_z z (pos 0) ≡ false → pos 0 ≤ℤ z
not_below_zero z h = omega (arith, ints)

end_value : (o : Option ℤ) (l : ℤ) → o ≡ Some l → IfSome o IsValue → IsValue l
end_value o l is h = let P : Option ℤ → Type 0 = λ p. IfSome p IsValue in subst P is h

at_least : (o : Option ℤ) (l v : ℤ) → o ≡ Some l → IfSome o (λ e. e ≤ℤ v) → l ≤ℤ v
at_least o l v is h = let P : Option ℤ → Type 0 = λ p. IfSome p (λ e. e ≤ℤ v) in subst P is h

at_most : (o : Option ℤ) (m v : ℤ) → o ≡ Some m → IfSome o (λ e. v ≤ℤ e) → v ≤ℤ m
at_most o m v is h = let P : Option ℤ → Type 0 = λ p. IfSome p (λ e. v ≤ℤ e) in subst P is h

unpassed : (t e r : ℤ) → SFits w64 t → SFits w64 e → r ≡ (to_z w64 (of_z w64 t) *ℤ to_z w64 (of_z w64 e)) → r ≡ (t *ℤ e)
unpassed t e r t_fits e_fits is = rw (to_z-of_z w64 t t_fits, to_z-of_z w64 e e_fits) at is

-- the multiple of an end of an interval is the greatest one, or the least one
pub greatest_falling : (t e r v : ℤ) (o : Option ℤ) → SFits w64 t → o ≡ Some e → IfSome o IsValue → r ≡ (to_z w64 (of_z w64 t) *ℤ to_z w64 (of_z w64 e)) → IsUnwrapped r
    → lt_z (to_z w64 (of_z w64 t)) (pos 0) ≡ true → IfSome o (λ l. l ≤ℤ v) → (t *ℤ v) ≤ℤ to_z w64 (of_z w64 r)
greatest_falling t e r v o fits is value product small test h =
    let below : t ≤ℤ pos 0 = below_zero t (as_passed (λ z. lt_z z (pos 0) ≡ true) t fits test) in
    greatest_by t v e r (unpassed t e r fits (value_fits e (end_value o e is value)) product) small (falling t e v below (at_least o e v is h))

pub greatest_rising : (t e r v : ℤ) (o : Option ℤ) → SFits w64 t → o ≡ Some e → IfSome o IsValue → r ≡ (to_z w64 (of_z w64 t) *ℤ to_z w64 (of_z w64 e)) → IsUnwrapped r
    → lt_z (to_z w64 (of_z w64 t)) (pos 0) ≡ false → IfSome o (λ m. v ≤ℤ m) → (t *ℤ v) ≤ℤ to_z w64 (of_z w64 r)
greatest_rising t e r v o fits is value product small test h =
    let above : pos 0 ≤ℤ t = not_below_zero t (as_passed (λ z. lt_z z (pos 0) ≡ false) t fits test) in
    greatest_by t v e r (unpassed t e r fits (value_fits e (end_value o e is value)) product) small (rising t v e above (at_most o e v is h))

pub least_falling : (t e r v : ℤ) (o : Option ℤ) → SFits w64 t → o ≡ Some e → IfSome o IsValue → r ≡ (to_z w64 (of_z w64 t) *ℤ to_z w64 (of_z w64 e)) → IsUnwrapped r
    → lt_z (to_z w64 (of_z w64 t)) (pos 0) ≡ true → IfSome o (λ m. v ≤ℤ m) → to_z w64 (of_z w64 r) ≤ℤ (t *ℤ v)
least_falling t e r v o fits is value product small test h =
    let below : t ≤ℤ pos 0 = below_zero t (as_passed (λ z. lt_z z (pos 0) ≡ true) t fits test) in
    least_by t v e r (unpassed t e r fits (value_fits e (end_value o e is value)) product) small (falling t v e below (at_most o e v is h))

pub least_rising : (t e r v : ℤ) (o : Option ℤ) → SFits w64 t → o ≡ Some e → IfSome o IsValue → r ≡ (to_z w64 (of_z w64 t) *ℤ to_z w64 (of_z w64 e)) → IsUnwrapped r
    → lt_z (to_z w64 (of_z w64 t)) (pos 0) ≡ false → IfSome o (λ l. l ≤ℤ v) → to_z w64 (of_z w64 r) ≤ℤ (t *ℤ v)
least_rising t e r v o fits is value product small test h =
    let above : pos 0 ≤ℤ t = not_below_zero t (as_passed (λ z. lt_z z (pos 0) ≡ false) t fits test) in
    least_by t v e r (unpassed t e r fits (value_fits e (end_value o e is value)) product) small (rising t e v above (at_least o e v is h))
