-- Lists of cycles, and pairs of lists.
use Rattle.std.proofs.Common.{inl, inr, ◌≡◌, ℕ, zero, suc, ◌<◌, ◌&&◌, Bool, true, false, cond, List, length, get_or, All, Any, Some, None, refl, sym, subst, arith}
use Rattle.std.specs.List.{AllZip, cons_option}
use Rattle.std.proofs.lemmas.Bool.{cases_lt, false≢true}
use Rattle.std.proofs.lemmas.List.{get_or_default}
use Rattle.std.proofs.lemmas.List.Elements.{All-cons, All-head, All-tail, AllZip-get_or, length_all_zip}
use Rattle.itv_base.proofs.Lists.{All-front}
use Rattle.unroll.specs.Cycles.{in_cycles}
use Rattle.unroll.proofs.BetweenLists.{All-back}

pub are_true : (a b : Bool) → a ≡ true → b ≡ true → (a && b) ≡ true
are_true true b p q = q
are_true false b p q = absurd (false≢true p)

-- what holds of all that the cycles give holds of what one cycle gives
pub all_in_cycle : {X : Type 0} (P : X → Type 0) (each : ℕ → List X) (n cycle : ℕ) → cycle < n → All P (in_cycles each n) → All P (each cycle)
all_in_cycle P each zero cycle less all = absurd (omega (arith, less))
all_in_cycle P each (suc n) cycle less all =
    elim (cases_lt cycle n) [
      | inl before ↦ all_in_cycle P each n cycle before (All-front P (in_cycles each n) (each n) all)
      | inr past ↦ let same : n ≡ cycle = omega (arith, less, past) in subst (λ k. All P (each k)) same (All-back P (in_cycles each n) (each n) all)
    ]

-- ---- pairs of lists

pub all_same : {X : Type 0} (R : X → X → Type 0) (P Q : X → Type 0) (xs ys : List X) → AllZip R xs ys → ((x y : X) → R x y → P x → Q y) → All P xs → All Q ys
all_same R P Q xs ys pairs carries h = λ k d within.
    let in' : k < length xs = subst (λ n. k < n) (sym (length_all_zip R xs ys pairs)) within in
    carries (get_or xs k d) (get_or ys k d) (AllZip-get_or R xs ys k d d pairs in') (h k d in')

pub any_same : {X : Type 0} (R : X → X → Type 0) (P Q : X → Type 0) (xs ys : List X) → AllZip R xs ys → ((x y : X) → R x y → P x → Q y) → Any P xs → Any Q ys
any_same R P Q xs ys pairs carries (k, x, within, here, h) =
    let below : k < length ys = subst (λ n. k < n) (length_all_zip R xs ys pairs) within in (
      k,
      get_or ys k x,
      below,
      get_or_default ys k (get_or ys k x) x below,
      carries (get_or xs k x) (get_or ys k x) (AllZip-get_or R xs ys k x x pairs within) (subst P (sym here) h),
    )

-- ---- elements that are there if a test is met

-- If the first of two elements is there wherever the second one is, and what holds of it carries over, then what holds of a list carries over to a list with it.
pub one_more : {X : Type 0} (now then : Bool) (P Q : X → Type 0) (c d : X) (cs ds : List X) → (then ≡ true → now ≡ true) → (then ≡ true → P c → Q d) → (All P cs → All Q ds)
    → All P (cons_option (cond now (Some c) None) cs) → All Q (cons_option (cond then (Some d) None) ds)
one_more true true P Q c d cs ds exists each rest all = All-cons Q d ds (each refl (All-head P c cs all)) (rest (All-tail P c cs all))
one_more true false P Q c d cs ds exists each rest all = rest (All-tail P c cs all)
one_more false true P Q c d cs ds exists each rest all = absurd (false≢true (exists refl))
one_more false false P Q c d cs ds exists each rest all = rest all

-- what holds of an element, if it is there, and of a list holds of the list with it
pub one_more_if : {X : Type 0} (now : Bool) (Q : X → Type 0) (d : X) (ds : List X) → (now ≡ true → Q d) → All Q ds → All Q (cons_option (cond now (Some d) None) ds)
one_more_if true Q d ds each rest = All-cons Q d ds (each refl) rest
one_more_if false Q d ds each rest = rest
