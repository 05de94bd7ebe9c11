-- What several steps, one after another, gave.
use Rattle.std.proofs.Common.{◌≡◌, ◌+◌, ℕ, List, [], ◌∷◌, Option, Some, None, Result, Ok, Err, ok_or, refl, ap, subst}
use Rattle.itv_base.specs.Reading.{unless, walk}
use Rattle.itv_base.specs.Reading as results

-- if two steps one after another gave a value, each step gave a value
pub result_then : {A B F : Type 0} (r : Result A F) (f : A → Result B F) (y : B) → results.◌>>=◌ r f ≡ Ok y → (x : A) × (r ≡ Ok x) × (f x ≡ Ok y)
result_then (Ok x) f y is = (x, refl, is)
result_then (Err fault) f y is = absurd (cc is)

-- if `ok_or` gave a value, the option had it
pub ok_gave : {A F : Type 0} (o : Option A) (fault : F) (x : A) → ok_or o fault ≡ Ok x → o ≡ Some x
ok_gave None fault x is = absurd (cc is)
ok_gave (Some y) fault x is = let same : y ≡ x = cc is in ap (λ z. Some z) same

-- if `unless` gave a value, it is the value that was tested
pub unless_gave : {A X F : Type 0} (o : Option X) (fault : X → F) (value x : A) → unless o fault value ≡ Ok x → value ≡ x
unless_gave None fault value x is = cc is
unless_gave (Some y) fault value x is = absurd (cc is)

-- if `unless` gave a value, there was no fault
pub unless_none : {A X F : Type 0} (o : Option X) (fault : X → F) (value x : A) → unless o fault value ≡ Ok x → o ≡ None
unless_none None fault value x is = refl
unless_none (Some y) fault value x is = absurd (cc is)

-- a fact that each step of a loop keeps holds of what the loop gave
pub walk_keeps : {X A F : Type 0} (P : A → Type 0) (step : ℕ → A → X → Result A F) → ((n : ℕ) (a b : A) (x : X) → P a → step n a x ≡ Ok b → P b)
    → (n : ℕ) (done last : A) (xs : List X) → P done → walk step n done xs ≡ Ok last → P last
walk_keeps P step keeps n done last [] holds is = let same : done ≡ last = cc is in subst P same holds
walk_keeps P step keeps n done last (x ∷ xs) holds is =
    let (more, first, rest) = result_then (step n done x) (λ next. walk step (n + 1) next xs) last is in
    walk_keeps P step keeps (n + 1) more last xs (keeps n done more x holds first) rest
