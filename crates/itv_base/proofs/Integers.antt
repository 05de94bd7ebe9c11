-- Integers: tests of their order, and minus a number.
use Rattle.std.proofs.Common.{◌≡◌, ℤ, ◌<ℤ◌, true, arith, ◌≤ℤ◌, ◌≤◌, pos, negsuc, false, refl, neg_ℤ, Option, Some, None, option_map, sym, ap, ◌<◌, unsigned_abs, ℕ}
use Rattle.std.specs.Prelude.{int_lt, int_le}
use Rattle.std.proofs.lemmas.Int.{ints}
use Rattle.std.proofs.lemmas.Bool.{le-ltb}

pub lt_from_test : (a b : ℤ) → int_lt a b ≡ true → a <ℤ b
lt_from_test a b h = omega (arith, ints)

pub le_from_test : (a b : ℤ) → int_le a b ≡ true → a ≤ℤ b
le_from_test a b h = omega (arith, ints)

pub test_from_lt : (a b : ℤ) → a <ℤ b → int_lt a b ≡ true
test_from_lt a b h = grind (arith, ints)

pub test_from_le : (a b : ℤ) → a ≤ℤ b → int_le a b ≡ true
test_from_le a b h = grind (arith, ints)

pub no_test_from_le : (a b : ℤ) → b ≤ℤ a → int_lt a b ≡ false
no_test_from_le (pos a) (pos b) h = le-ltb a b (omega (arith, ints))
no_test_from_le (pos a) (negsuc b) h = refl
no_test_from_le (negsuc a) (pos b) h = absurd (omega (arith, ints))
no_test_from_le (negsuc a) (negsuc b) h = le-ltb b a (omega (arith, ints))

pub le_from_no_test : (a b : ℤ) → int_lt a b ≡ false → b ≤ℤ a
le_from_no_test a b h = omega (arith, ints)

pub neg_twice : (z : ℤ) → neg_ℤ (neg_ℤ z) ≡ z
neg_twice z = omega (arith, ints)

pub no_neg : (z : Option ℤ) → z ≡ option_map neg_ℤ (option_map neg_ℤ z)
no_neg None = refl
no_neg (Some z) = ap Some (sym (neg_twice z))

pub past_minus : (value limit : ℤ) → int_lt value (neg_ℤ limit) ≡ true → limit <ℤ neg_ℤ value
past_minus value limit h = omega (arith, ints)

pub at_most_abs : (z : ℤ) → z ≤ℤ pos (unsigned_abs z)
at_most_abs (pos n) = omega (arith, ints)
at_most_abs (negsuc n) = omega (arith, ints)

pub abs_less : (a b : ℤ) → pos 0 ≤ℤ a → a <ℤ b → unsigned_abs a < unsigned_abs b
abs_less (pos a) (pos b) low less = omega (arith, ints, less)
abs_less (pos a) (negsuc b) low less = absurd (omega (arith, ints, less))
abs_less (negsuc a) b low less = absurd (omega (arith, ints, low))

pub through : (x y z : ℤ) → x ≤ℤ y → y ≤ℤ z → x ≤ℤ z
through x y z le more = omega (arith, ints, le, more)

pub below_none : {k n : ℕ} → k < n → n ≡ 0 → ⊥
below_none h e = omega arith
