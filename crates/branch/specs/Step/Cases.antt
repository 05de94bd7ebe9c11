-- The cases that a search has still to close.
use Rattle.std.specs.Prelude.{◌+◌, ◌-◌, ◌*◌, ◌≤◌, ℕ, cond, min, List, [], ◌∷◌, Option, IsSomeAnd, slice_get}
use Rattle.event_graph.specs.Cases.{IsCase, is_split}
use Rattle.event_graph.specs.Network.{Constraint, Net, cause_count_of, splittable_count}
use Rattle.event_graph.specs.Proof.{Case, MaySplit}

-- two or more causes to choose from
abbrev pub IsSplittable : Option Constraint → Type 0
IsSplittable o = IsSomeAnd o (λ c. 2 ≤ cause_count_of c)

-- none of the two or more causes of a constraint is chosen
pub record IsFree (net : Net) (chosen : Case) (number : ℕ) : Type 0 where
  pub may : MaySplit net chosen number
  pub causes : IsSplittable (slice_get net.constraints number)

-- each choice is of a constraint with two or more causes
abbrev pub AreOfMany : Net → Case → Type 0
AreOfMany net [] = Unit {0}
AreOfMany net (choice ∷ below) = IsSplittable (slice_get net.constraints choice.constraint) × AreOfMany net below

-- a case of a search, which chooses only where there are two or more causes
abbrev pub IsSearchCase : Net → Case → Type 0
IsSearchCase net chosen = IsCase net chosen × AreOfMany net chosen

-- 1 for a constraint with two or more causes to choose from, else 0
abbrev pub one_if_splittable : Constraint → ℕ
one_if_splittable c = min (cause_count_of c - 1) 1

-- how many constraints with two or more causes are not split in a case; the first of the list has this number
abbrev pub unsplit_from : ℕ → List Constraint → Case → ℕ
unsplit_from number [] chosen = 0
unsplit_from number (k ∷ ks) chosen = cond (is_split chosen number) 0 (one_if_splittable k) + unsplit_from (number + 1) ks chosen

-- the measure of a search: what is left of its budget, and then the constraints that can still be split
abbrev pub work_left : Net → ℕ → ℕ → Case → ℕ
work_left net budget leaves chosen = (budget - leaves) * (splittable_count net + 1) + unsplit_from 0 net.constraints chosen
