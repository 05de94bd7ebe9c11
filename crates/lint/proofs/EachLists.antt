-- What the elements of lists give, with one more element.
use Rattle.std.proofs.Common.{◌≡◌, ℕ, suc, ◌+◌, ◌<◌, List, [], ◌∷◌, ◌++◌, length, take, get_or, Some, refl, ap, sym, ◌∙◌, append-nil, append_assoc, inl, inr, arith}
use Rattle.std.specs.Prelude.{slice_get}
use Rattle.std.specs.List.{flat_map}
use Rattle.std.proofs.lemmas.List.{length-take-le, take_more}
use Rattle.std.proofs.lemmas.List.Concat.{flat_map-append}
use Rattle.std.proofs.lemmas.Option.{slice_get_cases, slice_get_within}
use Rattle.itv_base.proofs.Lists.{take_get}
use Rattle.lint.specs.Lists.{each_behind, each_from}

-- ---- by numbers

each_append : {X Y : Type 0} (gives : ℕ → X → List Y) (n : ℕ) (xs ys : List X) → each_from gives n (xs ++ ys) ≡ each_from gives n xs ++ each_from gives (n + length xs) ys
each_append gives n [] ys = let same : n ≡ n + 0 = omega arith in ap (λ k. each_from gives k ys) same
each_append gives n (x ∷ xs) ys =
    let same : n + 1 + length xs ≡ n + suc (length xs) = omega arith in
    ap (λ front. gives n x ++ front) (each_append gives (n + 1) xs ys ∙ ap (λ k. each_from gives (n + 1) xs ++ each_from gives k ys) same)
    ∙ sym (append_assoc (gives n x) (each_from gives (n + 1) xs) (each_from gives (n + suc (length xs)) ys))

-- one more element, given by its number
pub each_more : {X Y : Type 0} (gives : ℕ → X → List Y) (xs : List X) (n : ℕ) (x : X) (old now new : List Y) → slice_get xs n ≡ Some x
    → now ≡ old ++ each_from gives 0 (take n xs) → new ≡ now ++ gives n x → new ≡ old ++ each_from gives 0 (take (n + 1) xs)
each_more gives xs n x old now new read before grown =
    let within : n < length xs = slice_get_within xs n x read in
    let count : 0 + length (take n xs) ≡ n = omega (arith, length-take-le n xs (omega (arith, within))) in
    let more : each_from gives 0 (take (n + 1) xs) ≡ each_from gives 0 (take n xs) ++ gives n x =
    ap (each_from gives 0) (take_get xs n x read) ∙ each_append gives 0 (take n xs) (x ∷ []) ∙ ap (λ k. each_from gives 0 (take n xs) ++ (gives k x ++ [])) count
    ∙ ap (λ ys. each_from gives 0 (take n xs) ++ ys) (append-nil (gives n x)) in
    grown ∙ ap (λ ys. ys ++ gives n x) before ∙ append_assoc old (each_from gives 0 (take n xs)) (gives n x) ∙ ap (λ ys. old ++ ys) (sym more)

-- one more element, whatever it is
pub each_there : {X Y : Type 0} (gives : ℕ → X → List Y) (xs : List X) (n : ℕ) (old now new : List Y) → n < length xs
    → now ≡ old ++ each_from gives 0 (take n xs) → ((x : X) → new ≡ now ++ gives n x) → new ≡ old ++ each_from gives 0 (take (n + 1) xs)
each_there gives xs n old now new within before grown = elim (slice_get_cases xs n).1 [
  | inl (x, inside, at, same) ↦ each_more gives xs n x old now new at before (grown x)
  | inr (past, none) ↦ absurd (omega (arith, within, past))
]

-- the same of each element
pub each_same : {X Y : Type 0} (gives others : ℕ → X → List Y) → ((n : ℕ) (x : X) → gives n x ≡ others n x) → (n : ℕ) (xs : List X) → each_from gives n xs ≡ each_from others n xs
each_same gives others same n [] = refl
each_same gives others same n (x ∷ xs) = ap (λ ys. ys ++ each_from gives (n + 1) xs) (same n x) ∙ ap (λ ys. others n x ++ ys) (each_same gives others same (n + 1) xs)

-- ---- without numbers

-- one more element
pub flat_more : {X Y : Type 0} (gives : X → List Y) (xs : List X) (n : ℕ) (x : X) (old now new : List Y) → n < length xs → x ≡ get_or xs n x
    → now ≡ old ++ flat_map gives (take n xs) → new ≡ now ++ gives x → new ≡ old ++ flat_map gives (take (n + 1) xs)
flat_more gives xs n x old now new within is before grown =
    let more : flat_map gives (take (n + 1) xs) ≡ flat_map gives (take n xs) ++ gives x =
    ap (flat_map gives) (take_more xs n x within ∙ ap (λ y. take n xs ++ y ∷ []) (sym is)) ∙ flat_map-append gives (take n xs) (x ∷ [])
    ∙ ap (λ ys. flat_map gives (take n xs) ++ ys) (append-nil (gives x)) in
    grown ∙ ap (λ ys. ys ++ gives x) before ∙ append_assoc old (flat_map gives (take n xs)) (gives x) ∙ ap (λ ys. old ++ ys) (sym more)

-- the same of each element
pub flat_same : {X Y : Type 0} (gives others : X → List Y) → ((x : X) → gives x ≡ others x) → (xs : List X) → flat_map gives xs ≡ flat_map others xs
flat_same gives others same [] = refl
flat_same gives others same (x ∷ xs) = ap (λ ys. ys ++ flat_map gives xs) (same x) ∙ ap (λ ys. others x ++ ys) (flat_same gives others same xs)

-- ---- with the elements before

pub each_behind_append : {X Y : Type 0} (gives : List X → X → List Y) (before xs ys : List X) → each_behind gives before (xs ++ ys) ≡ each_behind gives before xs ++ each_behind gives (before ++ xs) ys
each_behind_append gives before [] ys = ap (λ front. each_behind gives front ys) (sym (append-nil before))
each_behind_append gives before (x ∷ xs) ys =
    ap (λ rest. gives before x ++ rest) (each_behind_append gives (before ++ x ∷ []) xs ys ∙ ap (λ front. each_behind gives (before ++ x ∷ []) xs ++ each_behind gives front ys) (append_assoc before (x ∷ []) xs))
    ∙ sym (append_assoc (gives before x) (each_behind gives (before ++ x ∷ []) xs) (each_behind gives (before ++ x ∷ xs) ys))

-- one more element after some, and all after others
pub behind_push : {X Y : Type 0} (gives : List X → X → List Y) (before xs : List X) (x : X) (old now new : List Y) → now ≡ old ++ each_behind gives before xs
    → new ≡ now ++ gives (before ++ xs) x → new ≡ old ++ each_behind gives before (xs ++ x ∷ [])
behind_push gives before xs x old now new held grown =
    let more : each_behind gives before (xs ++ x ∷ []) ≡ each_behind gives before xs ++ gives (before ++ xs) x =
    each_behind_append gives before xs (x ∷ []) ∙ ap (λ ys. each_behind gives before xs ++ ys) (append-nil (gives (before ++ xs) x)) in
    grown ∙ ap (λ ys. ys ++ gives (before ++ xs) x) held ∙ append_assoc old (each_behind gives before xs) (gives (before ++ xs) x) ∙ ap (λ ys. old ++ ys) (sym more)

-- one more element
pub behind_more : {X Y : Type 0} (gives : List X → X → List Y) (xs : List X) (n : ℕ) (x : X) (old now new : List Y) → n < length xs → x ≡ get_or xs n x
    → now ≡ old ++ each_behind gives [] (take n xs) → new ≡ now ++ gives (take n xs) x → new ≡ old ++ each_behind gives [] (take (n + 1) xs)
behind_more gives xs n x old now new within is held grown =
    behind_push gives [] (take n xs) x old now new held grown ∙ ap (λ front. old ++ each_behind gives [] front) (sym (take_more xs n x within ∙ ap (λ y. take n xs ++ y ∷ []) (sym is)))
