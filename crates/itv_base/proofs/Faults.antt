-- The fault of a reading, step by step.
use Rattle.std.proofs.Common.{◌≡◌, ℕ, suc, ◌+◌, ◌-◌, ◌<◌, Bool, true, false, List, [], ◌∷◌, length, drop, map, get_or, Option, Some, None, Result, Ok, Err, IfOk, refl, sym, ap, ◌∙◌, arith, add-one, drop-cons}
use Rattle.std.proofs.lemmas.List.{drop-map}
use Rattle.itv_base.specs.Reading.{◌>>=◌, unless, walk, walk_to, UnlessTrue, IsReadingFault}

-- ---- faults passed on

handed_on : {A B F : Type 0} (b : Bool) (reading : Result A F) (more : Result B F) (fault : F) → ((d : F) → reading ≡ Err d → more ≡ Err d)
    → UnlessTrue b (reading ≡ Err fault) → UnlessTrue b (more ≡ Err fault)
handed_on true reading more fault on h = tt
handed_on false reading more fault on h = on fault h

-- if one reading has each fault of another, a fault of the other is a fault of this one
pub IsReadingFault-on : {A B F : Type 0} (is_memory : F → Bool) (reading : Result A F) (more : Result B F) (fault : F)
    → ((d : F) → reading ≡ Err d → more ≡ Err d) → IsReadingFault is_memory reading fault → IsReadingFault is_memory more fault
IsReadingFault-on is_memory reading more fault on h = handed_on (is_memory fault) reading more fault on h

-- the fault of the first step is the fault of all steps
pub IsReadingFault-first : {A B F : Type 0} (is_memory : F → Bool) (reading : Result A F) (f : A → Result B F) (fault : F)
    → IsReadingFault is_memory reading fault → IsReadingFault is_memory (reading >>= f) fault
IsReadingFault-first is_memory reading f fault h = IsReadingFault-on is_memory reading (reading >>= f) fault (λ d is. ap (λ r. r >>= f) is) h

-- ---- walks along a list

-- the next element
pub drop-next : {X : Type 0} (xs : List X) (k : ℕ) (x : X) → k < length xs → x ≡ get_or xs k x → drop k xs ≡ x ∷ drop (k + 1) xs
drop-next xs k x h is = drop-cons xs k x h ∙ ap (λ y. y ∷ drop (suc k) xs) (sym is) ∙ ap (λ j. x ∷ drop j xs) (sym (add-one k))

-- the next element, seen by a view
pub next_at : {V X : Type 0} (f : V → X) (xs : List V) (k : ℕ) (v : V) → k < length xs → v ≡ get_or xs k v → drop k (map f xs) ≡ f v ∷ drop (k + 1) (map f xs)
next_at f xs k v h is = rw (drop-map, drop-map, add-one, drop-cons xs k v h) (ap (λ x. f x ∷ map f (drop (suc k) xs)) (sym is))

-- one element more was taken
pub walk_on : {X A F : Type 0} (step : ℕ → A → X → Result A F) (n k : ℕ) (done more : A) (xs : List X) (x : X) → k < length xs → x ≡ get_or xs k x → step n done x ≡ Ok more
    → walk step n done (drop k xs) ≡ walk step (n + 1) more (drop (k + 1) xs)
walk_on step n k done more xs x h is next = rw (drop-next xs k x h is, next) refl

-- the fault of an element is the fault of the walk
pub walk_fault : {X A F : Type 0} (is_memory : F → Bool) (step : ℕ → A → X → Result A F) (n k : ℕ) (done : A) (xs : List X) (x : X) (fault : F) → k < length xs → x ≡ get_or xs k x
    → IsReadingFault is_memory (step n done x) fault → IsReadingFault is_memory (walk step n done (drop k xs)) fault
walk_fault is_memory step n k done xs x fault h is next =
    IsReadingFault-on is_memory (step n done x) (walk step n done (drop k xs)) fault (λ d failed. rw (drop-next xs k x h is, failed) refl) next

-- likewise of elements that are seen by a view
pub walk_on_map : {V X A F : Type 0} (step : ℕ → A → X → Result A F) (f : V → X) (n k : ℕ) (done more : A) (xs : List V) (v : V) → k < length xs → v ≡ get_or xs k v
    → step n done (f v) ≡ Ok more → walk step n done (drop k (map f xs)) ≡ walk step (n + 1) more (drop (k + 1) (map f xs))
walk_on_map step f n k done more xs v h is next = rw (next_at f xs k v h is, next) refl

pub walk_fault_map : {V X A F : Type 0} (is_memory : F → Bool) (step : ℕ → A → X → Result A F) (f : V → X) (n k : ℕ) (done : A) (xs : List V) (v : V) (fault : F) → k < length xs → v ≡ get_or xs k v
    → IsReadingFault is_memory (step n done (f v)) fault → IsReadingFault is_memory (walk step n done (drop k (map f xs))) fault
walk_fault_map is_memory step f n k done xs v fault h is next =
    IsReadingFault-on is_memory (step n done (f v)) (walk step n done (drop k (map f xs))) fault (λ d failed. rw (next_at f xs k v h is, failed) refl) next

-- ---- what holds of a value that is read

-- what holds after the first step gives what holds after the second
pub IfOk-bind : {A B F : Type 0} (P : A → Type 0) (Q : B → Type 0) (reading : Result A F) (f : A → Result B F) → IfOk reading P → ((x : A) → P x → IfOk (f x) Q) → IfOk (reading >>= f) Q
IfOk-bind P Q (Ok x) f h then = then x h
IfOk-bind P Q (Err fault) f h then = tt

-- what holds of a value with nothing wrong holds of what `unless` gives
pub IfOk-unless : {A X F : Type 0} (P : A → Type 0) (o : Option X) (fault : X → F) (value : A) → (o ≡ None → P value) → IfOk (unless o fault value) P
IfOk-unless P None fault value h = h refl
IfOk-unless P (Some x) fault value h = tt

-- what each step keeps holds at the end
pub IfOk-walk : {X A F : Type 0} (P : A → Type 0) (step : ℕ → A → X → Result A F) → ((n : ℕ) (done : A) (x : X) → P done → IfOk (step n done x) P)
    → (n : ℕ) (done : A) (xs : List X) → P done → IfOk (walk step n done xs) P
IfOk-walk P step keeps n done [] h = h
IfOk-walk P step keeps n done (x ∷ xs) h = IfOk-bind P P (step n done x) _ (keeps n done x h) (λ more held. IfOk-walk P step keeps (n + 1) more xs held)

-- ---- walks over numbers

walk_to_from : {A F : Type 0} (step : ℕ → A → Result A F) (n left less : ℕ) (done : A) → left ≡ suc less → walk_to step n done left ≡ (step n done >>= (λ more. walk_to step (n + 1) more less))
walk_to_from step n left less done e = rw e refl

-- the next number
pub walk_to_step : {A F : Type 0} (step : ℕ → A → Result A F) (n count : ℕ) (done : A) → n < count
    → walk_to step n done (count - n) ≡ (step n done >>= (λ more. walk_to step (n + 1) more (count - (n + 1))))
walk_to_step step n count done h = walk_to_from step n (count - n) (count - (n + 1)) done (omega arith)

-- one number more was taken
pub walk_to_on : {A F : Type 0} (step : ℕ → A → Result A F) (n count : ℕ) (done more : A) → n < count → step n done ≡ Ok more
    → walk_to step n done (count - n) ≡ walk_to step (n + 1) more (count - (n + 1))
walk_to_on step n count done more h next = walk_to_step step n count done h ∙ rw next refl

-- the fault of a number is the fault of the walk
pub walk_to_fault : {A F : Type 0} (is_memory : F → Bool) (step : ℕ → A → Result A F) (n count : ℕ) (done : A) (fault : F) → n < count → IsReadingFault is_memory (step n done) fault
    → IsReadingFault is_memory (walk_to step n done (count - n)) fault
walk_to_fault is_memory step n count done fault h next =
    IsReadingFault-on is_memory (step n done) (walk_to step n done (count - n)) fault (λ d failed. walk_to_step step n count done h ∙ rw failed refl) next
