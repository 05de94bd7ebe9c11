-- A text that is compared piece by piece with what a number is called, and a list that is read text by text.
use Rattle.std.proofs.Common.{◌≡◌, ◌+◌, ℕ, zero, suc, Bool, true, false, cond, List, [], ◌∷◌, ◌++◌, drop, Some, None, Result, Ok, Err, refl, sym, ap, ◌∙◌, add-one, eqb, slice_get}
use Rattle.std.specs.Str.{bytes_eq}
use Rattle.itv_base.specs.Cuts.{stripped}
use Rattle.itv_base.specs.Reading.{walk}
use Rattle.job_margin.specs.Step.{IsListRead}
use Rattle.job_margin.specs.declared.list_fault.ListFault.{ListFault}
use Rattle.job_margin.specs.declared.list_fault.ListFault.TheVariants.{NoMemory, NoNumber}

stripped_by : (b c : ℕ) (rest text front word : List ℕ) (same : Bool) → eqb b c ≡ same → cond same (stripped front text) None ≡ Some rest
    → (stripped front text ≡ Some rest → bytes_eq text (front ++ word) ≡ bytes_eq rest word) → bytes_eq (b ∷ text) (c ∷ (front ++ word)) ≡ bytes_eq rest word
stripped_by b c rest text front word true e h tail = rw e (tail h)
stripped_by b c rest text front word false e h tail = absurd (cc h)

-- the text after a front is compared with what stands after it
pub called_rest : (text front word rest : List ℕ) → stripped front text ≡ Some rest → bytes_eq text (front ++ word) ≡ bytes_eq rest word
called_rest text [] word rest h = let same : text ≡ rest = cc h in ap (λ t. bytes_eq t word) same
called_rest [] (c ∷ front) word rest h = absurd (cc h)
called_rest (b ∷ text) (c ∷ front) word rest h = stripped_by b c rest text front word (eqb b c) refl h (λ is. called_rest text front word rest is)

none_by : (b c : ℕ) (text front word : List ℕ) (same : Bool) → eqb b c ≡ same → cond same (stripped front text) None ≡ None
    → (stripped front text ≡ None → bytes_eq text (front ++ word) ≡ false) → bytes_eq (b ∷ text) (c ∷ (front ++ word)) ≡ false
none_by b c text front word true e h tail = rw e (tail h)
none_by b c text front word false e h tail = rw e refl

-- without the front nothing is the same
pub called_none : (text front word : List ℕ) → stripped front text ≡ None → bytes_eq text (front ++ word) ≡ false
called_none text [] word h = absurd (cc h)
called_none [] (c ∷ front) word h = refl
called_none (b ∷ text) (c ∷ front) word h = none_by b c text front word (eqb b c) refl h (λ is. called_none text front word is)

-- ---- lists

at_drop : {X : Type 0} (xs : List X) (k : ℕ) (x : X) → slice_get xs k ≡ Some x → drop k xs ≡ x ∷ drop (suc k) xs
at_drop [] k x e = absurd (cc e)
at_drop (y ∷ xs) zero x e = let same : y ≡ x = cc e in ap (λ z. z ∷ xs) same
at_drop (y ∷ xs) (suc k) x e = at_drop xs k x e

-- the next text of a list is taken
pub list_next : {A X : Type 0} (step : ℕ → A → X → Result A ℕ) (k : ℕ) (done more : A) (xs : List X) (x : X) → slice_get xs k ≡ Some x → step k done x ≡ Ok more
    → walk step k done (drop k xs) ≡ walk step (k + 1) more (drop (k + 1) xs)
list_next step k done more xs x at next = rw (at_drop xs k x at, next, add-one) refl

stops_at : {A X : Type 0} (step : ℕ → A → X → Result A ℕ) (k : ℕ) (done : A) (xs : List X) (x : X) (place : ℕ) → slice_get xs k ≡ Some x → step k done x ≡ Err place → walk step k done (drop k xs) ≡ Err place
stops_at step k done xs x place at fails = rw (at_drop xs k x at, fails) refl

-- the next text of a list is not taken: nor is the list
pub list_stops : {A B C X : Type 0} (of : B → A) (like : C → A) (step : ℕ → A → X → Result A ℕ) (k : ℕ) (done : A) (xs : List X) (x : X) (fault : ListFault) (whole : Result A ℕ)
    → slice_get xs k ≡ Some x → IsListRead of (Err fault) (step k done x) → walk step k done (drop k xs) ≡ whole → IsListRead like (Err fault) whole
list_stops of like step k done xs x (NoNumber place) whole at is left = sym left ∙ stops_at step k done xs x place at is
list_stops of like step k done xs x NoMemory whole at is left = tt
