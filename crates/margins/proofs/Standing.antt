-- The ends of all numbers.
use Rattle.std.proofs.Common.{◌≡◌, ◌+◌, ◌<◌, ◌≤◌, ◌++◌, ◌⊎◌, inl, inr, ℕ, ℤ, Bool, true, false, IsTrue, List, [], ◌∷◌, length, get_or, take, Option, Some, None, slice_get, slice_index_or, Bor, sym, subst, ap, ◌∙◌, arith}
use Rattle.std.specs.Prelude.{Contains, IfSome, is_some}
use Rattle.std.specs.List.{AllZip}
use Rattle.std.proofs.lemmas.Bool.{cases_lt}
use Rattle.std.proofs.lemmas.List.{map-append, take_all, take_more}
use Rattle.std.proofs.lemmas.List.Elements.{Contains-append_left}
use Rattle.std.proofs.lemmas.Option.{IfSome_then}
use Rattle.itv_base.specs.declared.names.Side.{Side}
use Rattle.drawn_networks.specs.Drawn.{Drawn}
use Rattle.drawn_numbers.specs.declared.drawn_number.DrawnNumber.{DrawnNumber}
use Rattle.moves.specs.Found.{IsEndMargin}
use Rattle.moves.specs.Moving.{net_moved, opened}
use Rattle.moves.specs.Passing.{Passes}
use Rattle.moves.specs.Step.{lent}
use Rattle.moves.specs.declared.margin.Margin.{Margin}
use Rattle.moves.specs.declared.number_seen.NumberSeen.{NumberSeen}
use Rattle.margins.specs.Step.{AreFree, IsEndOf, IsFreeAt, IsFreeBetween, IsOpeningOf}
use Rattle.margins.specs.declared.free.Opening.{Opening}
use Rattle.margins.proofs.Opening.{each_free}

-- ---- two lists, one after another

pub pairs_push : {A B : Type 0} (R : A → B → Type 0) (xs : List A) (ys : List B) (x : A) (y : B) → AllZip R xs ys → R x y → AllZip R (xs ++ x ∷ []) (ys ++ y ∷ [])
pairs_push R [] [] x y pairs one = (one, tt)
pairs_push R [] (b ∷ ys) x y pairs one = absurd pairs
pairs_push R (a ∷ xs) [] x y pairs one = absurd pairs
pairs_push R (a ∷ xs) (b ∷ ys) x y pairs one = (pairs.0, pairs_push R xs ys x y pairs.1 one)

pub pairs_next : {A B : Type 0} (R : A → B → Type 0) (xs : List A) (ys zs : List B) (k : ℕ) (x : A) (y : B) → k < length xs → x ≡ get_or xs k x → AllZip R (take k xs) ys
    → R x y → zs ≡ ys ++ y ∷ [] → AllZip R (take (k + 1) xs) zs
pairs_next R xs ys zs k x y within at pairs one pushed =
    let more : take (k + 1) xs ≡ take k xs ++ x ∷ [] = take_more xs k x within ∙ ap (λ z. take k xs ++ z ∷ []) (sym at) in
    subst (λ (list : List _). AllZip R (take (k + 1) xs) list) (sym pushed)
    (subst (λ (list : List _). AllZip R list (ys ++ y ∷ [])) (sym more) (pairs_push R (take k xs) ys x y pairs one))

pub pairs_all : {A B : Type 0} (R : A → B → Type 0) (xs : List A) (ys : List B) (k : ℕ) → length xs ≤ k → AllZip R (take k xs) ys → AllZip R xs ys
pairs_all R xs ys k whole pairs = subst (λ (list : List _). AllZip R list ys) (take_all k xs whole) pairs

-- ---- one number

pub end_none : (drawn : Drawn) (budget : ℕ) (number : DrawnNumber) (side : Side) (end : Option ℤ) → is_some end ≡ false → IsEndOf drawn budget number side end None
end_none drawn budget number side end none = record { margin = tt; has = sym none }

pub end_some : (drawn : Drawn) (budget : ℕ) (number : DrawnNumber) (side : Side) (end : Option ℤ) (margin : Margin) → is_some end ≡ true
    → IsEndMargin drawn budget number side margin → IsEndOf drawn budget number side end (Some margin)
end_some drawn budget number side end margin some found = record { margin = found; has = sym some }

-- ---- free ends

-- what is marked was free, or was opened with others
pub marked_free : (opening : Opening) (start end : ℕ) (old new : List Bool) → AreFree opening.drawn.now opening.side opening.seen.now old → IsFreeBetween opening start end
    → ((k : ℕ) → IsTrue (slice_index_or new k false) → IsTrue (slice_index_or old k false) ⊎ ((start ≤ k) × (k < end) × IsTrue (slice_index_or opening.unused.now k false)))
    → AreFree opening.drawn.now opening.side opening.seen.now new
marked_free opening start end old new free between marked = λ k is. elim (marked k is) [ inl before ↦ free k before | inr now ↦ between k now.0 now.1 now.2 ]

-- the ends of numbers that were opened together are free
pub together_free : (opening : Opening) (start end : ℕ) (numbers : List DrawnNumber) → IsOpeningOf opening
    → Passes (record opening.drawn.now { net = net_moved (opened opening.side) opening.drawn.now numbers })
    → ((k : ℕ) → start ≤ k → k < end → IsTrue (slice_index_or opening.unused.now k false) → IfSome (slice_get opening.seen.now k) (λ (s : NumberSeen). Contains numbers s.number))
    → IsFreeBetween opening start end
together_free opening start end numbers is passes among = λ k low high marked.
    IfSome_then (slice_get opening.seen.now k) (among k low high marked)
    (λ s here. each_free opening.drawn.now numbers s.number opening.side is.passes.0 here passes)

-- nothing is marked
pub none_free : (drawn : Drawn) (side : Side) (seen : List NumberSeen) (free : List Bool) → ((k : ℕ) → slice_index_or free k false ≡ false) → AreFree drawn side seen free
none_free drawn side seen free none = λ k is. let not : slice_index_or free k false ≡ false = none k in absurd (cc (is, not))

-- the end of a number that is marked is free
pub free_at : (drawn : Drawn) (side : Side) (seen : List NumberSeen) (free : List Bool) (k : ℕ) (s : NumberSeen) (is_free : Bool) → AreFree drawn side seen free → slice_get seen k ≡ Some s
    → is_free ≡ slice_index_or free k false → IsTrue is_free → IsFreeAt drawn side s
free_at drawn side seen free k s is_free all at same is =
    let P : Option NumberSeen → Type 0 = λ o. IfSome o (IsFreeAt drawn side) in
    subst P at (all k (sym same ∙ is))

-- ---- marked numbers

-- the marked numbers are there, and the next one, if it is marked
pub there_next : (opening : Opening) (start k : ℕ) (old new : List DrawnNumber)
    → ((j : ℕ) → start ≤ j → j < k → IsTrue (slice_index_or opening.unused.now j false) → IfSome (slice_get opening.seen.now j) (λ (s : NumberSeen). Contains old s.number))
    → ((n : DrawnNumber) → Contains old n → Contains new n)
    → (IsTrue (slice_index_or opening.unused.now k false) → IfSome (slice_get opening.seen.now k) (λ (s : NumberSeen). Contains new s.number))
    → (j : ℕ) → start ≤ j → j < k + 1 → IsTrue (slice_index_or opening.unused.now j false) → IfSome (slice_get opening.seen.now j) (λ (s : NumberSeen). Contains new s.number)
there_next opening start k old new before kept here j low high marked =
    elim (cases_lt j k) [
      | inl less ↦ IfSome_then (slice_get opening.seen.now j) (before j low less marked) (λ s among. kept s.number among)
      | inr more ↦
          let same : k ≡ j = omega (arith, high, more) in
          let P : ℕ → Type 0 = λ n. IsTrue (slice_index_or opening.unused.now n false) → IfSome (slice_get opening.seen.now n) (λ (s : NumberSeen). Contains new s.number) in
          subst P same here marked
    ]

-- a number that is pushed is there, and so are those before it
pub pushed_kept : (old : List DrawnNumber) (number n : DrawnNumber) → Contains old n → Contains (old ++ number ∷ []) n
pushed_kept old number n among = Contains-append_left old (number ∷ []) n among

pub lent_push : (old : List (Bor DrawnNumber)) (b : Bor DrawnNumber) → lent (old ++ b ∷ []) ≡ lent old ++ b.now ∷ []
lent_push old b = map-append (λ (x : Bor DrawnNumber). x.now) old (b ∷ [])
