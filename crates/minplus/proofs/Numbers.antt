-- Entries that are there, and entries that are absent.
use Rattle.std.proofs.Common.{◌≡◌, ◌⊎◌, inl, inr, ℤ, ◌+ℤ◌, refl, ◌∙◌, Bool, true, false, cond, arith}
use Rattle.std.proofs.lemmas.Int.{ints, clamps}
use Rattle.std.specs.Prelude.{int_le, int_lt}
use Rattle.std.specs.Int.{int_min}
use lib.Signed.{◌≤ℤ◌}
use Rattle.minplus.specs.Rows.{IsEntry, IsSmall, improved}
use Rattle.minplus.specs.Step.Entries.{IsPresent}
use Rattle.minplus.specs.declared.rows.TheConstants.{ABSENT}

pub there_from : (entry : ℤ) → int_lt entry ABSENT ≡ true → IsPresent entry
there_from entry h = grind (arith, ints)

pub absent_from : (entry : ℤ) → int_lt entry ABSENT ≡ false → IsPresent entry → ⊥
absent_from entry h there = grind (arith, ints)

-- an entry that is there is small
pub small_there : (entry : ℤ) → IsEntry entry → IsPresent entry → IsSmall entry
small_there entry (inl absent) there = absurd (omega (arith, ints))
small_there entry (inr small) there = small

-- a small entry is there
pub there_small : (entry : ℤ) → IsSmall entry → IsPresent entry
there_small entry small = omega (arith, ints)

small_below : (x : ℤ) → IsSmall x → int_le ABSENT x ≡ false
small_below x small = grind (arith, ints)

pub improved_absent : (weight entry other : ℤ) → other ≡ ABSENT → improved weight entry other ≡ entry
improved_absent weight entry other is = rw is refl

pub improved_small : (weight entry other : ℤ) → IsSmall other → improved weight entry other ≡ int_min entry (other +ℤ weight)
improved_small weight entry other small = rw (small_below other small) refl

either : (b : Bool) (x y : ℤ) → (cond b y x ≡ x) ⊎ (cond b y x ≡ y)
either true x y = inr refl
either false x y = inl refl

-- the lesser of two numbers is one of them
pub lesser : (x y : ℤ) → (int_min x y ≡ x) ⊎ (int_min x y ≡ y)
lesser x y = either (int_lt y x) x y

pub lesser_below : (x y : ℤ) → (int_min x y ≤ℤ x) × (int_min x y ≤ℤ y)
lesser_below x y = (omega (arith, ints, clamps), omega (arith, ints, clamps))

-- an entry was improved by another one and a weight
pub record IsImproved (weight entry other new : ℤ) : Type 0 where
  pub falls : new ≤ℤ entry
  pub least : IsPresent other → new ≤ℤ (weight +ℤ other)
  pub made : (new ≡ entry) ⊎ (IsPresent other × (new ≡ (weight +ℤ other)))

swapped : (weight other new : ℤ) → new ≡ other +ℤ weight → new ≡ weight +ℤ other
swapped weight other new is = omega (arith, ints)

by_lesser : (weight entry other new : ℤ) → IsSmall other → new ≡ int_min entry (other +ℤ weight) → IsImproved weight entry other new
by_lesser weight entry other new small is =
    let below = lesser_below entry (other +ℤ weight) in
    let first : int_min entry (other +ℤ weight) ≤ℤ entry = below.0 in
    let second : int_min entry (other +ℤ weight) ≤ℤ (other +ℤ weight) = below.1 in
    record {
      falls = rw is first;
      least = λ there. omega (arith, ints);
      made = elim (lesser entry (other +ℤ weight)) [
        | inl same ↦ inl (is ∙ same)
        | inr sum ↦ inr (there_small other small, swapped weight other new (is ∙ sum))
      ];
    }

pub improved_is : (weight entry other : ℤ) → IsEntry other → IsImproved weight entry other (improved weight entry other)
improved_is weight entry other (inl absent) =
    let same = improved_absent weight entry other absent in
    record {
      falls = rw same (omega (arith, ints));
      least = λ there. absurd (omega (arith, ints));
      made = inl same;
    }
improved_is weight entry other (inr small) = by_lesser weight entry other _ small (improved_small weight entry other small)
