-- What holds of the first elements of a list holds of one more.
use Rattle.std.proofs.Common.{◌≡◌, ◌⊎◌, inl, inr, ℕ, ◌+◌, ◌<◌, List, length, get_or, sym, subst, ◌∙◌, arith}
use Rattle.std.specs.List.{AllWithin}
use Rattle.std.proofs.lemmas.List.{get_or_default}

before_or_at : (k i : ℕ) → k < i + 1 → (k < i) ⊎ (k ≡ i)
before_or_at k i h = grind arith

pub one_more : {X : Type 0} (P : X → Type 0) (xs : List X) (i : ℕ) (x e : X) → i < length xs → AllWithin P xs 0 i → x ≡ get_or xs i e → P x → AllWithin P xs 0 (i + 1)
one_more P xs i x e within all is here k d low high = elim (before_or_at k i high) [
  | inl before ↦ all k d low before
  | inr at ↦ subst (λ n. P (get_or xs n d)) (sym at) (subst P (is ∙ get_or_default xs i e d within) here)
]
