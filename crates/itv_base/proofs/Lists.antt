-- Facts on lists that std does not have.
use Rattle.std.proofs.Common.{◌≡◌, ℕ, ◌+◌, ◌<◌, List, [], ◌∷◌, ◌++◌, length, drop, take, Some, ap, ◌∙◌, Bool, ◌||◌, map, refl, zero, suc, ℤ, get_or, arith, set, IsSome, All, add-one, drop-cons}
use Rattle.std.specs.Prelude.{slice_get}
use Rattle.std.proofs.lemmas.List.{drop_more, take_more, get_or-set_same, length-set}
use Rattle.std.proofs.lemmas.Option.{get_or_from_slice_get, slice_get_within, slice_get-get_or}
use Rattle.std.specs.List.{list_any}
use Rattle.std.proofs.lemmas.List.Elements.{All-cons, All-head, All-nil, All-tail}

-- what is left of a list is the next element, as it was read, and what is left after it
pub drop-read : {X : Type 0} (xs : List X) (k : ℕ) (x : X) → slice_get xs k ≡ Some x → drop k xs ≡ x ∷ drop (k + 1) xs
drop-read xs k x read =
    let within : k < length xs = slice_get_within xs k x read in
    drop_more xs k x within ∙ ap (λ y. y ∷ drop (k + 1) xs) (get_or_from_slice_get xs k x x read)

-- a front with the next element
pub take_get : {X : Type 0} (xs : List X) (i : ℕ) (x : X) → slice_get xs i ≡ Some x → take (i + 1) xs ≡ take i xs ++ x ∷ []
take_get xs i x read = take_more xs i x (slice_get_within xs i x read) ∙ ap (λ y. take i xs ++ y ∷ []) (get_or_from_slice_get xs i x x read)

pub list_any-map : {X Y : Type 0} (p : Y → Bool) (f : X → Y) (xs : List X) → list_any p (map f xs) ≡ list_any (λ x. p (f x)) xs
list_any-map p f [] = refl
list_any-map p f (x ∷ xs) = ap (λ r. p (f x) || r) (list_any-map p f xs)

pub default_same : (xs : List ℤ) (i : ℕ) (d e : ℤ) → i < length xs → get_or xs i d ≡ get_or xs i e
default_same [] i d e within = absurd (omega arith)
default_same (x ∷ xs) zero d e within = refl
default_same (x ∷ xs) (suc i) d e within = default_same xs i d e (omega arith)

pub all_or : (P : ℤ → Type 0) (xs : List ℤ) (k : ℕ) (d e : ℤ) → k < length xs → P (get_or xs k d) → P (get_or xs k e)
all_or P [] k d e h p = absurd (omega arith)
all_or P (x ∷ xs) zero d e h p = p
all_or P (x ∷ xs) (suc k) d e h p = all_or P xs k d e (omega arith) p

-- each place of a list has an element
pub found_below : {X : Type 0} (xs : List X) (i : ℕ) → i < length xs → (x : X) × (slice_get xs i ≡ Some x)
found_below [] i within = absurd (omega arith)
found_below (x ∷ xs) zero within = (x, refl)
found_below (x ∷ xs) (suc i) within = found_below xs i (omega arith)

pub slice_get_set : {A : Type 0} (xs : List A) (i : ℕ) (x y : A) → slice_get xs i ≡ Some y → slice_get (set xs i x) i ≡ Some x
slice_get_set xs i x y at =
    let within : i < length xs = slice_get_within xs i y at in
    let within_set : i < length (set xs i x) = omega (arith, length-set xs i x) in
    slice_get-get_or (set xs i x) i x within_set ∙ ap Some (get_or-set_same xs i x x within)

pub there_in : {A : Type 0} (xs : List A) (i : ℕ) → i < length xs → IsSome (slice_get xs i)
there_in [] i within = absurd (omega (arith, within))
there_in (x ∷ xs) zero within = refl
there_in (x ∷ xs) (suc i) within = there_in xs i (omega (arith, within))

pub All-front : {X : Type 0} (P : X → Type 0) (xs ys : List X) → All P (xs ++ ys) → All P xs
All-front P [] ys all = All-nil P
All-front P (x ∷ xs) ys all = All-cons P x xs (All-head P x (xs ++ ys) all) (All-front P xs ys (All-tail P x (xs ++ ys) all))

pub drop_one : {A : Type 0} (xs : List A) (i : ℕ) (x d : A) → i < length xs → x ≡ get_or xs i d → drop i xs ≡ x ∷ drop (i + 1) xs
drop_one xs i x d h e = rw (e, add-one) (drop-cons xs i d h)
