-- Reading step by step up to the first fault, and what a result says of a reading.
use Rattle.std.specs.Prelude.{◌≡◌, ℕ, zero, suc, ◌+◌, Bool, true, false, List, [], ◌∷◌, Option, Some, None, Result, Ok, Err}

-- one step after another: the fault of the first step, or what the next step makes of its value
infixl 10 ◌>>=◌
abbrev pub ◌>>=◌ : {A B F : Type 0} → Result A F → (A → Result B F) → Result B F
(Ok x) >>= f = f x
(Err fault) >>= f = Err fault

-- a value if nothing is wrong with it, and otherwise the fault of what is wrong
abbrev pub unless : {A X F : Type 0} → Option X → (X → F) → A → Result A F
unless None fault value = Ok value
unless (Some x) fault value = Err (fault x)

-- ---- loops with a first fault

-- one step for each element of a list in order, numbered from n on, up to the first fault; each step gets what the steps before it gave
abbrev pub walk : {X A F : Type 0} → (ℕ → A → X → Result A F) → ℕ → A → List X → Result A F
walk step n done [] = Ok done
walk step n done (x ∷ xs) = step n done x >>= λ more. walk step (n + 1) more xs

-- one step for each of so many numbers from n on, up to the first fault; each step gets what the steps before it gave
abbrev pub walk_to : {A F : Type 0} → (ℕ → A → Result A F) → ℕ → A → ℕ → Result A F
walk_to step n done zero = Ok done
walk_to step n done (suc left) = step n done >>= λ more. walk_to step (n + 1) more left

-- ---- results

-- what holds unless a test is met
abbrev pub UnlessTrue : Bool → Type 0 → Type 0
UnlessTrue true P = Unit {0}
UnlessTrue false P = P

-- A fault is the fault of a reading. Lack of memory, which a test knows, may come whatever the reading gives.
abbrev pub IsReadingFault : {A F : Type 0} → (F → Bool) → Result A F → F → Type 0
IsReadingFault is_memory reading fault = UnlessTrue (is_memory fault) (reading ≡ Err fault)

-- A result, seen by a view, is the result of a reading, unless there was not enough memory.
abbrev pub AgreesWith : {A B F : Type 0} → (F → Bool) → (A → B) → Result A F → Result B F → Type 0
AgreesWith is_memory view (Ok x) reading = reading ≡ Ok (view x)
AgreesWith is_memory view (Err fault) reading = IsReadingFault is_memory reading fault
