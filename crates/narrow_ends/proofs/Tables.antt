-- Where things are in a list without doubles, and a table of their places.
use Rattle.std.proofs.Common.{◌≡◌, ℕ, zero, suc, Bool, true, false, ◌||◌, if◌then◌else◌, List, [], ◌∷◌, ◌++◌, length, set, get_or, All, Option, Some, None, refl, sym, subst, ap, ◌∙◌, ◌⊎◌, inl, inr, arith}
use Rattle.std.specs.Prelude.{◌↔◌, Contains, slice_get}
use Rattle.std.specs.Bool.{Decides}
use Rattle.std.specs.List.{list_any}
use Rattle.std.proofs.lemmas.Option.{get_or_from_slice_get, slice_get-get_or, slice_get_within}

-- ---- one more at the end

pub before_end : {A : Type 0} → (xs : List A) (y : A) (k : ℕ) (x : A) → slice_get xs k ≡ Some x → slice_get (xs ++ y ∷ []) k ≡ Some x
before_end [] y k x at = absurd (cc at)
before_end (z ∷ xs) y zero x at = at
before_end (z ∷ xs) y (suc k) x at = before_end xs y k x at

pub at_end : {A : Type 0} → (xs : List A) (y : A) → slice_get (xs ++ y ∷ []) (length xs) ≡ Some y
at_end [] y = refl
at_end (z ∷ xs) y = at_end xs y

pub end_cases : {A : Type 0} → (xs : List A) (y : A) (k : ℕ) (x : A) → slice_get (xs ++ y ∷ []) k ≡ Some x → (slice_get xs k ≡ Some x) ⊎ ((k ≡ length xs) × (x ≡ y))
end_cases [] y zero x at = inr (refl, cc at)
end_cases [] y (suc k) x at = absurd (cc at)
end_cases (z ∷ xs) y zero x at = inl at
end_cases (z ∷ xs) y (suc k) x at = elim (end_cases xs y k x at) [ inl before ↦ inl before | inr last ↦ inr (ap suc last.0, last.1) ]

-- ---- another one at a place

pub set_cases : {A : Type 0} → (xs : List A) (k j : ℕ) (x y : A) → slice_get (set xs k x) j ≡ Some y → ((j ≡ k) × (x ≡ y)) ⊎ ((j ≡ k → ⊥) × (slice_get xs j ≡ Some y))
set_cases [] k j x y at = absurd (cc at)
set_cases (z ∷ xs) zero zero x y at = inl (refl, cc at)
set_cases (z ∷ xs) zero (suc j) x y at = inr ((λ e. absurd (omega (arith, e))), at)
set_cases (z ∷ xs) (suc k) zero x y at = inr ((λ e. absurd (omega (arith, e))), at)
set_cases (z ∷ xs) (suc k) (suc j) x y at = elim (set_cases xs k j x y at) [
  | inl here ↦ inl (ap suc here.0, here.1)
  | inr other ↦ inr ((λ e. other.0 (omega (arith, e))), other.1)
]

pub all_at : {A : Type 0} → (P : A → Type 0) (xs : List A) → ((k : ℕ) (x : A) → slice_get xs k ≡ Some x → P x) → All P xs
all_at P xs each k d within = each k (get_or xs k d) (slice_get-get_or xs k d within)

pub at_place : {A : Type 0} → (P : A → Type 0) (xs : List A) → All P xs → (k : ℕ) (x : A) → slice_get xs k ≡ Some x → P x
at_place P xs all k x at = subst P (get_or_from_slice_get xs k x x at) (all k x (slice_get_within xs k x at))

-- ---- whether some element is the same

pub any_at : {A : Type 0} → (E : A → A → Bool) → ((x y : A) → Decides (E x y) (x ≡ y)) → (y : A) (xs : List A) (k : ℕ) → slice_get xs k ≡ Some y → list_any (E y) xs ≡ true
any_at E same y [] k at = absurd (cc at)
any_at E same y (x ∷ xs) zero at = rw ((same y x).1 (cc at)) refl
any_at E same y (x ∷ xs) (suc k) at = by (E y x) (list_any (E y) xs) (any_at E same y xs k at)
  where
    by : (a b : Bool) → b ≡ true → (a || b) ≡ true
    by true b is = refl
    by false b is = is

pub any_none : {A : Type 0} → (E : A → A → Bool) → ((x y : A) → Decides (E x y) (x ≡ y)) → (y : A) (xs : List A) → ((k : ℕ) → slice_get xs k ≡ Some y → ⊥) → list_any (E y) xs ≡ false
any_none E same y [] none = refl
any_none E same y (x ∷ xs) none = by (E y x) (list_any (E y) xs) (λ is. none 0 (ap Some (sym ((same y x).0 is)))) (any_none E same y xs (λ k at. none (suc k) at))
  where
    by : (a b : Bool) → (a ≡ true → ⊥) → b ≡ false → (a || b) ≡ false
    by true b apart is = absurd (apart refl)
    by false b apart is = is

pub place_contains : {A : Type 0} → (xs : List A) (k : ℕ) (x : A) → slice_get xs k ≡ Some x → Contains xs x
place_contains xs k x at = (k, slice_get_within xs k x at, get_or_from_slice_get xs k x x at)

pub contains_place : {A : Type 0} → (xs : List A) (x : A) → Contains xs x → (k : ℕ) × (slice_get xs k ≡ Some x)
contains_place xs x has = (has.0, slice_get-get_or xs has.0 x has.1 ∙ ap Some has.2)

-- ---- a table of places

-- the table has the place of each thing in the list, by keys for things
abbrev pub HasPlaces : {K A : Type 0} → (K → A) → (K → Option ℕ) → List A → Type 0
HasPlaces {K} {A} view place_of xs = (key : K) (place : ℕ) → (place_of key ≡ Some place) ↔ (slice_get xs place ≡ Some (view key))

module _ {K A : Type 0} (view : K → A) (same_end_key : K → K → Bool) (same : (k l : K) → Decides (same_end_key k l) (view k ≡ view l)) (old new : K → Option ℕ) (xs : List A) (key : K) where
  -- no thing of the list has a key that the table lacks
  pub absent : HasPlaces view old xs → old key ≡ None → (k : ℕ) → slice_get xs k ≡ Some (view key) → ⊥
  absent has none k at = cc ((has key k).1 at, none)

  put_to : (other : K) (place : ℕ) (b : Bool) → same_end_key key other ≡ b → HasPlaces view old xs → (if b then Some (length xs) else old other) ≡ Some place
      → slice_get (xs ++ view key ∷ []) place ≡ Some (view other)
  put_to other place true is has put =
      let here : length xs ≡ place = cc put in
      rw (← here, at_end xs (view key)) (ap Some ((same key other).0 is))
  put_to other place false is has put = before_end xs (view key) place (view other) ((has other place).0 put)

  put_from : (other : K) (place : ℕ) (b : Bool) → same_end_key key other ≡ b → HasPlaces view old xs → old key ≡ None → slice_get (xs ++ view key ∷ []) place ≡ Some (view other)
      → (if b then Some (length xs) else old other) ≡ Some place
  put_from other place true is has none at = elim (end_cases xs (view key) place (view other) at) [
    | inl before ↦ absurd (absent has none place (before ∙ ap Some (sym ((same key other).0 is))))
    | inr last ↦ ap Some (sym last.0)
  ]
  put_from other place false is has none at = elim (end_cases xs (view key) place (view other) at) [
    | inl before ↦ (has other place).1 before
    | inr last ↦ absurd (cc (is, (same key other).1 (sym last.1)))
  ]

  -- a key that the table lacked is put at the end
  pub put_place : HasPlaces view old xs → old key ≡ None → ((other : K) → new other ≡ (if same_end_key key other then Some (length xs) else old other))
      → HasPlaces view new (xs ++ view key ∷ [])
  put_place has none put other place = (
    (λ is. put_to other place (same_end_key key other) refl has (sym (put other) ∙ is)),
    (λ at. put other ∙ put_from other place (same_end_key key other) refl has none at),
  )
