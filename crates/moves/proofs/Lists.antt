-- Lists whose elements are changed one by one, by the elements of another list.
use Rattle.std.proofs.Common.{◌≡◌, ◌≤◌, ◌+◌, ℕ, zero, suc, List, [], ◌∷◌, ◌++◌, length, map, take, zip, Option, Some, None, option_map, slice_get, refl, ap, subst, ◌∙◌, arith}
use Rattle.std.specs.List.{AllZip}
use Rattle.std.specs.Option.{option_map_or}
use Rattle.std.proofs.lemmas.Option.{same_Some}
use Rattle.moves.specs.Moving.{each_by}
use Rattle.itv_base.proofs.Lists.{take_get}

-- ---- an element

same_option : {X : Type 0} (o : Option X) → o ≡ option_map (λ (x : X). x) o
same_option None = refl
same_option (Some x) = refl

pub each_at : {X Y : Type 0} (f : X → Y → X) (xs : List X) (ys : List Y) (k : ℕ)
    → slice_get (each_by f xs ys) k ≡ option_map (λ (x : X). option_map_or (f x) (slice_get ys k) x) (slice_get xs k)
each_at f [] ys k = refl
each_at f (x ∷ xs) [] k = same_option (slice_get (x ∷ xs) k)
each_at f (x ∷ xs) (y ∷ ys) zero = refl
each_at f (x ∷ xs) (y ∷ ys) (suc k) = each_at f xs ys k

-- ---- the first elements, and one more

pub same_front : {X Y : Type 0} (k : ℕ) (xs : List X) (ys : List Y) → length ys ≡ length xs → length (take k ys) ≡ length (take k xs)
same_front zero xs ys same = refl
same_front (suc k) [] [] same = refl
same_front (suc k) [] (y ∷ ys) same = absurd (omega (arith, same))
same_front (suc k) (x ∷ xs) [] same = absurd (omega (arith, same))
same_front (suc k) (x ∷ xs) (y ∷ ys) same = ap suc (same_front k xs ys (omega (arith, same)))

each_push : {X Y : Type 0} (f : X → Y → X) (xs : List X) (ys : List Y) (x : X) (y : Y) → length ys ≡ length xs
    → each_by f (xs ++ x ∷ []) (ys ++ y ∷ []) ≡ each_by f xs ys ++ f x y ∷ []
each_push f [] [] x y same = refl
each_push f [] (z ∷ ys) x y same = absurd (omega (arith, same))
each_push f (w ∷ xs) [] x y same = absurd (omega (arith, same))
each_push f (w ∷ xs) (z ∷ ys) x y same = ap (λ zs. f w z ∷ zs) (each_push f xs ys x y (omega (arith, same)))

pub each_next : {X Y : Type 0} (f : X → Y → X) (xs : List X) (ys : List Y) (k : ℕ) (x : X) (y : Y) → length ys ≡ length xs → slice_get xs k ≡ Some x → slice_get ys k ≡ Some y
    → each_by f (take (k + 1) xs) (take (k + 1) ys) ≡ each_by f (take k xs) (take k ys) ++ f x y ∷ []
each_next f xs ys k x y same at_x at_y = rw (take_get xs k x at_x, take_get ys k y at_y) (each_push f (take k xs) (take k ys) x y (same_front k xs ys same))

pub each_length : {X Y : Type 0} (f : X → Y → X) (xs : List X) (ys : List Y) → length (each_by f xs ys) ≡ length xs
each_length f [] ys = refl
each_length f (x ∷ xs) [] = refl
each_length f (x ∷ xs) (y ∷ ys) = ap suc (each_length f xs ys)

-- ---- what stays

pub each_same : {X Y : Type 0} (f : X → Y → X) → ((x : X) (y : Y) → f x y ≡ x) → (xs : List X) (ys : List Y) → each_by f xs ys ≡ xs
each_same f same [] ys = refl
each_same f same (x ∷ xs) [] = refl
each_same f same (x ∷ xs) (y ∷ ys) = ap (λ z. z ∷ each_by f xs ys) (same x y) ∙ ap (λ zs. x ∷ zs) (each_same f same xs ys)

-- what does not depend on how the elements are changed
pub map_kept : {X Y Z : Type 0} (v : X → Z) (f : X → Y → X) → ((x : X) (y : Y) → v (f x y) ≡ v x) → (xs : List X) (ys : List Y) → map v (each_by f xs ys) ≡ map v xs
map_kept v f same [] ys = refl
map_kept v f same (x ∷ xs) [] = refl
map_kept v f same (x ∷ xs) (y ∷ ys) = ap (λ z. z ∷ map v (each_by f xs ys)) (same x y) ∙ ap (λ zs. v x ∷ zs) (map_kept v f same xs ys)

-- ---- relations

pub all_own : {X : Type 0} (R : X → X → Type 0) → ((x : X) → R x x) → (xs : List X) → AllZip R xs xs
all_own R own [] = tt
all_own R own (x ∷ xs) = (own x, all_own R own xs)

-- two changes that are related element by element
pub each_related : {X Y : Type 0} (R : X → X → Type 0) (f g : X → Y → X) → ((x : X) → R x x) → ((x : X) (y : Y) → R (f x y) (g x y)) → (xs : List X) (ys : List Y)
    → AllZip R (each_by f xs ys) (each_by g xs ys)
each_related R f g own both [] ys = tt
each_related R f g own both (x ∷ xs) [] = (own x, all_own R own xs)
each_related R f g own both (x ∷ xs) (y ∷ ys) = (both x y, each_related R f g own both xs ys)

-- what is related to two lists is related to a third one, if it is so element by element
pub map_between : {X Z W : Type 0} (R : Z → W → Type 0) (F G H : X → Z) → ((x : X) (w : W) → R (F x) w → R (G x) w → R (H x) w) → (xs : List X) (ws : List W)
    → AllZip R (map F xs) ws → AllZip R (map G xs) ws → AllZip R (map H xs) ws
map_between R F G H plain [] [] first last = tt
map_between R F G H plain [] (w ∷ ws) first last = absurd first
map_between R F G H plain (x ∷ xs) [] first last = absurd first
map_between R F G H plain (x ∷ xs) (w ∷ ws) first last = (plain x w first.0 last.0, map_between R F G H plain xs ws first.1 last.1)

pub each_between : {X Y Z W : Type 0} (R : Z → W → Type 0) (F G H : X → Z) (f g h : X → Y → X) → ((x : X) (w : W) → R (F x) w → R (G x) w → R (H x) w)
    → ((x : X) (y : Y) (w : W) → R (F (f x y)) w → R (G (g x y)) w → R (H (h x y)) w) → (xs : List X) (ys : List Y) (ws : List W)
    → AllZip R (map F (each_by f xs ys)) ws → AllZip R (map G (each_by g xs ys)) ws → AllZip R (map H (each_by h xs ys)) ws
each_between R F G H f g h plain both [] ys [] first last = tt
each_between R F G H f g h plain both [] ys (w ∷ ws) first last = absurd first
each_between R F G H f g h plain both (x ∷ xs) [] ws first last = map_between R F G H plain (x ∷ xs) ws first last
each_between R F G H f g h plain both (x ∷ xs) (y ∷ ys) [] first last = absurd first
each_between R F G H f g h plain both (x ∷ xs) (y ∷ ys) (w ∷ ws) first last =
    (both x y w first.0 last.0, each_between R F G H f g h plain both xs ys ws first.1 last.1)

-- a changed list and the list by which it was changed, element by element
pub zip_from_each : {X Y : Type 0} (R : X → Y → Type 0) (f : X → Y → X) (xs : List X) (ys : List Y) → length ys ≡ length xs
    → ((k : ℕ) (x : X) (y : Y) → slice_get xs k ≡ Some x → slice_get ys k ≡ Some y → R (f x y) y) → AllZip R (each_by f xs ys) ys
zip_from_each R f [] [] same each = tt
zip_from_each R f [] (y ∷ ys) same each = absurd (omega (arith, same))
zip_from_each R f (x ∷ xs) [] same each = absurd (omega (arith, same))
zip_from_each R f (x ∷ xs) (y ∷ ys) same each = (each 0 x y refl refl, zip_from_each R f xs ys (omega (arith, same)) (λ k. each (suc k)))

pub each_from_zip : {X Y : Type 0} (R : X → Y → Type 0) (f : X → Y → X) (xs : List X) (ys : List Y) → AllZip R (each_by f xs ys) ys
    → (k : ℕ) (x : X) (y : Y) → slice_get xs k ≡ Some x → slice_get ys k ≡ Some y → R (f x y) y
each_from_zip R f [] ys all k x y at_x at_y = absurd (cc at_x)
each_from_zip R f (w ∷ xs) [] all k x y at_x at_y = absurd all
each_from_zip R f (w ∷ xs) (z ∷ ys) all zero x y at_x at_y = subst (λ v. R (f v y) y) (same_Some w x at_x) (subst (λ v. R (f w v) v) (same_Some z y at_y) all.0)
each_from_zip R f (w ∷ xs) (z ∷ ys) all (suc k) x y at_x at_y = each_from_zip R f xs ys all.1 k x y at_x at_y

-- ---- pairs

pub zip_at : {X Y : Type 0} (xs : List X) (ys : List Y) (k : ℕ) (x : X) (y : Y) → slice_get xs k ≡ Some x → slice_get ys k ≡ Some y → slice_get (zip xs ys) k ≡ Some (x, y)
zip_at [] ys k x y at_x at_y = absurd (cc at_x)
zip_at (w ∷ xs) [] k x y at_x at_y = absurd (cc at_y)
zip_at (w ∷ xs) (z ∷ ys) zero x y at_x at_y = ap (λ v. Some (v, z)) (same_Some w x at_x) ∙ ap (λ v. Some (x, v)) (same_Some z y at_y)
zip_at (w ∷ xs) (z ∷ ys) (suc k) x y at_x at_y = zip_at xs ys k x y at_x at_y

pub zip_short : {X Y : Type 0} (xs : List X) (ys : List Y) → length (zip xs ys) ≤ length ys
zip_short [] ys = omega arith
zip_short (x ∷ xs) [] = omega arith
zip_short (x ∷ xs) (y ∷ ys) = let rest : length (zip xs ys) ≤ length ys = zip_short xs ys in omega (arith, rest)

-- ---- some element
