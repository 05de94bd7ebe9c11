-- Facts on lists that std does not have: which elements pass a test.
use Rattle.std.proofs.Common.{◌≡◌, ℕ, suc, ◌+◌, Bool, true, false, ◌||◌, cond, List, [], ◌∷◌, ◌++◌, length, map, filter, Option, Some, None, refl, ap, sym, ◌∙◌, add-zero, arith}
use Rattle.std.specs.List.{list_any, position_from}
use Rattle.itv_base.proofs.Bools.{both_false}

-- ---- tests of elements

pub list_any-same : {X : Type 0} (p q : X → Bool) (xs : List X) → ((x : X) → p x ≡ q x) → list_any p xs ≡ list_any q xs
list_any-same p q [] same = refl
list_any-same p q (x ∷ xs) same = rw (same x, list_any-same p q xs same)

pub filter-none : {X : Type 0} (p : X → Bool) (xs : List X) → list_any p xs ≡ false → filter p xs ≡ []
filter-none p [] none = refl
filter-none p (x ∷ xs) none =
    let parts = both_false (p x) (list_any p xs) none in
    rw parts.0 (filter-none p xs parts.1)

pub filter-same : {X : Type 0} (p q : X → Bool) (xs : List X) → ((x : X) → p x ≡ q x) → filter p xs ≡ filter q xs
filter-same p q [] same = refl
filter-same p q (x ∷ xs) same = rw (same x, filter-same p q xs same)

pub list_any-none : {X : Type 0} (p : X → Bool) (xs : List X) → ((x : X) → p x ≡ false) → list_any p xs ≡ false
list_any-none p [] none = refl
list_any-none p (x ∷ xs) none = rw (none x) (list_any-none p xs none)

-- two maps that agree on each element that fails a test agree on a list of which no element passes it
pub map_none : {X Y : Type 0} (f g : X → Y) (p : X → Bool) (xs : List X) → ((x : X) → p x ≡ false → g x ≡ f x) → list_any p xs ≡ false → map g xs ≡ map f xs
map_none f g p [] same none = refl
map_none f g p (x ∷ xs) same none =
    let parts = both_false (p x) (list_any p xs) none in
    rw (same x parts.0, map_none f g p xs same parts.1)

-- ---- the first place at which a test passes

module _ {X : Type 0} (p : X → Bool) where
  pub position_from-none : (n : ℕ) (xs : List X) → list_any p xs ≡ false → position_from p n xs ≡ None
  position_from-none n [] none = refl
  position_from-none n (x ∷ xs) none =
      let parts = both_false (p x) (list_any p xs) none in
      rw parts.0 (position_from-none (n + 1) xs parts.1)

  none_by : (b : Bool) (n : ℕ) (more : Option ℕ) (any : Bool) → cond b (Some n) more ≡ None → (more ≡ None → any ≡ false) → (b || any) ≡ false
  none_by true n more any is rest = cc
  none_by false n more any is rest = rest is

  pub none-from_position : (n : ℕ) (xs : List X) → position_from p n xs ≡ None → list_any p xs ≡ false
  none-from_position n [] is = refl
  none-from_position n (x ∷ xs) is = none_by (p x) n (position_from p (n + 1) xs) (list_any p xs) is (none-from_position (n + 1) xs)

  pub position_from-other : (n : ℕ) (xs : List X) (x : X) → p x ≡ false → position_from p n (xs ++ x ∷ []) ≡ position_from p n xs
  position_from-other n [] x other = rw other
  position_from-other n (y ∷ xs) x other = ap (λ more. cond (p y) (Some n) more) (position_from-other (n + 1) xs x other)

  shifted : (n m : ℕ) → n + 1 + m ≡ n + suc m
  shifted n m = omega arith

  pub position_from-push : (n : ℕ) (xs : List X) (x : X) → list_any p xs ≡ false → p x ≡ true → position_from p n (xs ++ x ∷ []) ≡ Some (n + length xs)
  position_from-push n [] x none here = rw here (ap Some (sym (add-zero n)))
  position_from-push n (y ∷ xs) x none here =
      let parts = both_false (p y) (list_any p xs) none in
      rw parts.0 (position_from-push (n + 1) xs x parts.1 here ∙ ap Some (shifted n (length xs)))

pub position_from-same : {X : Type 0} (p q : X → Bool) (n : ℕ) (xs : List X) → ((x : X) → p x ≡ q x) → position_from p n xs ≡ position_from q n xs
position_from-same p q n [] same = refl
position_from-same p q n (x ∷ xs) same = rw (same x, position_from-same p q (n + 1) xs same)

-- ---- at most one element passes a test

abbrev pub AtMostOne : {X : Type 0} → (X → Bool) → List X → Type 0
AtMostOne p [] = Unit {0}
AtMostOne p (x ∷ xs) = (p x ≡ true → list_any p xs ≡ false) × AtMostOne p xs
