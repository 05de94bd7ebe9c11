-- Products of whole numbers: a product is linear in each factor, and so between its values at two numbers.
use Rattle.std.proofs.Common.{◌≡◌, ℕ, zero, suc, ℤ, pos, negsuc, ◌+ℤ◌, ◌-ℤ◌, ◌≤ℤ◌, sym, ap, ◌∙◌, arith}
use Rattle.std.proofs.lemmas.Int.{ints}
use lib.IntN.{◌*ℤ◌, suc_ℤ, pred_ℤ, suc_ℤ-*ℤ, pred_ℤ-*ℤ, zero-*ℤ, suc_ℤ-+ℤ, pred_ℤ-+ℤ, +ℤ_idl}
use Rattle.itv_base.proofs.Integers.{through}

up_one : (a b : ℤ) → (suc_ℤ a +ℤ b) ≡ suc_ℤ (a +ℤ b)
up_one a b = suc_ℤ-+ℤ a b

down_one : (a b : ℤ) → (pred_ℤ a +ℤ b) ≡ pred_ℤ (a +ℤ b)
down_one a b = pred_ℤ-+ℤ a b

none_more : (b : ℤ) → (pos 0 +ℤ b) ≡ b
none_more b = +ℤ_idl b

joined_up : (x y p q r v : ℤ) → x ≡ (y +ℤ v) → y ≡ (p +ℤ q) → r ≡ (p +ℤ v) → x ≡ (r +ℤ q)
joined_up x y p q r v e f g = omega (arith, ints, e, f, g)

joined_down : (x y p q r v : ℤ) → x ≡ (y -ℤ v) → y ≡ (p +ℤ q) → r ≡ (p -ℤ v) → x ≡ (r +ℤ q)
joined_down x y p q r v e f g = omega (arith, ints, e, f, g)

from_zero : (x q z : ℤ) → x ≡ q → z ≡ pos 0 → x ≡ (z +ℤ q)
from_zero x q z e f = omega (arith, ints, e, f)

none_sum : (b v : ℤ) → ((pos 0 +ℤ b) *ℤ v) ≡ ((pos 0 *ℤ v) +ℤ (b *ℤ v))
none_sum b v = from_zero ((pos 0 +ℤ b) *ℤ v) (b *ℤ v) (pos 0 *ℤ v) (ap (λ (z : ℤ). z *ℤ v) (none_more b)) (zero-*ℤ v)

up_sum : (n : ℕ) (b v : ℤ) → ((pos n +ℤ b) *ℤ v) ≡ ((pos n *ℤ v) +ℤ (b *ℤ v))
up_sum zero b v = none_sum b v
up_sum (suc n) b v =
    joined_up ((pos (suc n) +ℤ b) *ℤ v) ((pos n +ℤ b) *ℤ v) (pos n *ℤ v) (b *ℤ v) (pos (suc n) *ℤ v) v
    (ap (λ (z : ℤ). z *ℤ v) (up_one (pos n) b) ∙ suc_ℤ-*ℤ (pos n +ℤ b) v) (up_sum n b v) (suc_ℤ-*ℤ (pos n) v)

down_sum : (n : ℕ) (b v : ℤ) → ((negsuc n +ℤ b) *ℤ v) ≡ ((negsuc n *ℤ v) +ℤ (b *ℤ v))
down_sum zero b v =
    joined_down ((negsuc 0 +ℤ b) *ℤ v) ((pos 0 +ℤ b) *ℤ v) (pos 0 *ℤ v) (b *ℤ v) (negsuc 0 *ℤ v) v
    (ap (λ (z : ℤ). z *ℤ v) (down_one (pos 0) b) ∙ pred_ℤ-*ℤ (pos 0 +ℤ b) v) (none_sum b v) (pred_ℤ-*ℤ (pos 0) v)
down_sum (suc n) b v =
    joined_down ((negsuc (suc n) +ℤ b) *ℤ v) ((negsuc n +ℤ b) *ℤ v) (negsuc n *ℤ v) (b *ℤ v) (negsuc (suc n) *ℤ v) v
    (ap (λ (z : ℤ). z *ℤ v) (down_one (negsuc n) b) ∙ pred_ℤ-*ℤ (negsuc n +ℤ b) v) (down_sum n b v) (pred_ℤ-*ℤ (negsuc n) v)

pub sum_times : (a b v : ℤ) → ((a +ℤ b) *ℤ v) ≡ ((a *ℤ v) +ℤ (b *ℤ v))
sum_times (pos n) b v = up_sum n b v
sum_times (negsuc n) b v = down_sum n b v

less_back : (a b : ℤ) → ((a -ℤ b) +ℤ b) ≡ a
less_back a b = omega (arith, ints)

parted : (x y z : ℤ) → x ≡ (y +ℤ z) → y ≡ (x -ℤ z)
parted x y z e = omega (arith, ints, e)

pub less_times : (a b v : ℤ) → ((a -ℤ b) *ℤ v) ≡ ((a *ℤ v) -ℤ (b *ℤ v))
less_times a b v = parted (a *ℤ v) ((a -ℤ b) *ℤ v) (b *ℤ v) (ap (λ (z : ℤ). z *ℤ v) (sym (less_back a b)) ∙ sum_times (a -ℤ b) b v)

one_more : (x v : ℤ) → x ≡ pos 0 → (x +ℤ v) ≡ v
one_more x v e = omega (arith, ints, e)

pub one_times : (v : ℤ) → (pos 1 *ℤ v) ≡ v
one_times v = suc_ℤ-*ℤ (pos 0) v ∙ one_more (pos 0 *ℤ v) v (zero-*ℤ v)

pub zero_times : (v : ℤ) → (pos 0 *ℤ v) ≡ pos 0
zero_times v = zero-*ℤ v

-- ---- between two numbers

flat : (x y : ℤ) → x ≡ pos 0 → y ≡ pos 0 → x ≤ℤ y
flat x y e f = omega (arith, ints, e, f)

rise : (x y p q a b : ℤ) → x ≡ (p +ℤ a) → y ≡ (q +ℤ b) → p ≤ℤ q → a ≤ℤ b → x ≤ℤ y
rise x y p q a b e f le more = omega (arith, ints, e, f, le, more)

fall : (x y p q a b : ℤ) → x ≡ (p -ℤ a) → y ≡ (q -ℤ b) → p ≤ℤ q → b ≤ℤ a → x ≤ℤ y
fall x y p q a b e f le more = omega (arith, ints, e, f, le, more)

-- a multiple that is not negative rises, and a negative one falls
pub rises : (n : ℕ) (a b : ℤ) → a ≤ℤ b → (pos n *ℤ a) ≤ℤ (pos n *ℤ b)
rises zero a b le = flat _ _ (zero-*ℤ a) (zero-*ℤ b)
rises (suc n) a b le = rise _ _ _ _ a b (suc_ℤ-*ℤ (pos n) a) (suc_ℤ-*ℤ (pos n) b) (rises n a b le) le

pub falls : (n : ℕ) (a b : ℤ) → a ≤ℤ b → (negsuc n *ℤ b) ≤ℤ (negsuc n *ℤ a)
falls zero a b le = fall _ _ _ _ b a (pred_ℤ-*ℤ (pos 0) b) (pred_ℤ-*ℤ (pos 0) a) (flat _ _ (zero-*ℤ b) (zero-*ℤ a)) le
falls (suc n) a b le = fall _ _ _ _ b a (pred_ℤ-*ℤ (negsuc n) b) (pred_ℤ-*ℤ (negsuc n) a) (falls n a b le) le

-- what is at most a multiple of two numbers is at most that multiple of each number between them
pub above_between : (k least most v x : ℤ) → least ≤ℤ v → v ≤ℤ most → x ≤ℤ (k *ℤ least) → x ≤ℤ (k *ℤ most) → x ≤ℤ (k *ℤ v)
above_between (pos n) least most v x low high first last = through _ _ _ first (rises n least v low)
above_between (negsuc n) least most v x low high first last = through _ _ _ last (falls n v most high)

-- and what is at least
pub below_between : (k least most v x : ℤ) → least ≤ℤ v → v ≤ℤ most → (k *ℤ least) ≤ℤ x → (k *ℤ most) ≤ℤ x → (k *ℤ v) ≤ℤ x
below_between (pos n) least most v x low high first last = through _ _ _ (rises n v most high) last
below_between (negsuc n) least most v x low high first last = through _ _ _ (falls n least v low) first
