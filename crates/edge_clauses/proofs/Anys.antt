-- Some element of a list, and all of them.
use Rattle.std.proofs.Common.{◌⊎◌, inl, inr, zero, suc, List, [], ◌∷◌, All, Any, sym, refl, subst, arith}

pub any_head : {X : Type 0} (P : X → Type 0) (x : X) (xs : List X) → P x → Any P (x ∷ xs)
any_head P x xs h = (0, x, omega arith, refl, h)

pub any_tail : {X : Type 0} (P : X → Type 0) (x : X) (xs : List X) → Any P xs → Any P (x ∷ xs)
any_tail P x xs (i, y, within, here, h) = (suc i, y, omega arith, here, h)

pub any_none : {X : Type 0} (P : X → Type 0) → Any P [] → ⊥
any_none P (i, y, within, here, h) = omega arith

pub any_cases : {X : Type 0} (P : X → Type 0) (x : X) (xs : List X) → Any P (x ∷ xs) → P x ⊎ Any P xs
any_cases P x xs (zero, y, within, here, h) = inl (subst P (sym here) h)
any_cases P x xs (suc i, y, within, here, h) = inr (i, y, omega arith, here, h)

pub any_weaker : {X : Type 0} (P Q : X → Type 0) (xs : List X) → ((x : X) → P x → Q x) → Any P xs → Any Q xs
any_weaker P Q xs follows (i, y, within, here, h) = (i, y, within, here, follows y h)

pub all_none : {X : Type 0} (P : X → Type 0) → All P []
all_none P i d within = absurd (omega arith)

pub all_more : {X : Type 0} (P : X → Type 0) (x : X) (xs : List X) → P x → All P xs → All P (x ∷ xs)
all_more P x xs here all zero d within = here
all_more P x xs here all (suc i) d within = all i d (omega arith)

-- for each element one of two facts holds: the first fact holds of all elements, or the second of some element
pub all_or_any : {X : Type 0} (P Q : X → Type 0) (xs : List X) → All (λ x. P x ⊎ Q x) xs → All P xs ⊎ Any Q xs
all_or_any P Q [] h = inl (all_none P)
all_or_any P Q (x ∷ xs) h = elim (h 0 x (omega arith)) [
  | inl here ↦ elim (all_or_any P Q xs (λ i d within. h (suc i) d (omega arith))) [
    | inl all ↦ inl (all_more P x xs here all)
    | inr some ↦ inr (any_tail Q x xs some)
  ]
  | inr here ↦ inr (any_head Q x xs here)
]

-- a fact of some element that follows from a fact of all
pub any_element : {X : Type 0} (P Q : X → Type 0) (xs : List X) → All Q xs → Any P xs → (x : X) × P x × Q x
any_element P Q xs all (i, y, within, here, h) = (y, h, subst Q here (all i y within))
