-- Facts on truth values that std does not have.
use Rattle.std.proofs.Common.{◌≡◌, Bool, true, false, ◌||◌, refl, ◌&&◌, ◌⊎◌, inl, inr, sym}

pub both_false : (a b : Bool) → (a || b) ≡ false → (a ≡ false) × (b ≡ false)
both_false true b e = absurd cc
both_false false b e = (refl, e)

pub both_true : (a b : Bool) → (a && b) ≡ true → (a ≡ true) × (b ≡ true)
both_true true b e = (refl, e)
both_true false b e = cc

pub true_or_false : (b : Bool) → (b ≡ true) ⊎ (b ≡ false)
true_or_false true = inl refl
true_or_false false = inr refl

pub other_false : (a b : Bool) → a ≡ true → (a && b) ≡ false → b ≡ false
other_false true b is none = none
other_false false b is none = absurd (cc is)

pub same_test : (a b : Bool) → (a ≡ true → b ≡ true) → (b ≡ true → a ≡ true) → a ≡ b
same_test true b f g = sym (f refl)
same_test false true f g = g refl
same_test false false f g = refl
