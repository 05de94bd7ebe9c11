-- Paths over different events, which keep the entries small.
use Rattle.std.specs.Prelude.{◌≡◌, ◌<◌, ℕ, ℤ, neg_ℤ, ◌+ℤ◌, ◌≤ℤ◌, List, [], ◌∷◌, nat_eq}
use Rattle.std.specs.List.{IsDistinct}
use Rattle.minplus.specs.Step.Entries.{Entries, IsPresent}

-- the path over these events, in this order, has this length: the sum of the entries of its steps
abbrev pub IsEntryPath : Entries → ℕ → List ℕ → ℕ → ℤ → Type 0
IsEntryPath steps from [] to sum = IsPresent (steps from to) × (sum ≡ steps from to)
IsEntryPath steps from (event ∷ over) to sum = (rest : ℤ) × IsPresent (steps from event) × IsEntryPath steps event over to rest × (sum ≡ (steps from event +ℤ rest))

-- each number of the list is below the limit
abbrev pub AreBelow : ℕ → List ℕ → Type 0
AreBelow limit [] = Unit {0}
AreBelow limit (event ∷ over) = (event < limit) × AreBelow limit over

-- there is a path of this length over different events below a number
pub record HasPath (steps : Entries) (limit from to : ℕ) (sum : ℤ) : Type 0 where
  pub over : List ℕ
  pub path : IsEntryPath steps from over to sum
  pub below : AreBelow limit over
  pub distinct : IsDistinct nat_eq over

-- each entry that is present is the length of a path over different events below the limit
abbrev pub ArePaths : Entries → ℕ → Entries → Type 0
ArePaths steps limit entries = (from to : ℕ) → IsPresent (entries from to) → HasPath steps limit from to (entries from to)

-- each step that is present is within a limit in absolute value
abbrev pub AreSteps : ℤ → Entries → Type 0
AreSteps limit steps = (from to : ℕ) → IsPresent (steps from to) → (neg_ℤ limit ≤ℤ steps from to) × (steps from to ≤ℤ limit)
