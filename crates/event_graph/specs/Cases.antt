-- Cases of a proof that is read in order, given by their choices.
use Rattle.std.specs.Prelude.{◌==◌, ◌+◌, ◌-◌, ◌<◌, ◌||◌, ◌++◌, ℕ, Bool, false, if◌then◌else◌, List, [], ◌∷◌, Option, Some, None, slice_get}
use Rattle.event_graph.specs.Network.{Net}
use Rattle.event_graph.specs.Proof.{Case, MaySplit, cases_from, count_causes}

-- the number of constraints for which there is room, and the choices of a case, the latest one first
pub record DecisionsView : Type 0 where
  pub room : ℕ
  pub chosen : Case

-- the cause that is chosen of a constraint, where one is
abbrev pub cause_chosen : Case → ℕ → Option ℕ
cause_chosen [] number = None
cause_chosen (choice ∷ above) number = if choice.constraint == number then Some choice.cause else cause_chosen above number

-- a cause of the constraint is chosen
abbrev pub is_split : Case → ℕ → Bool
is_split [] number = false
is_split (choice ∷ above) number = (choice.constraint == number) || is_split above number

-- each choice names a constraint that may be split in the case of the choices before it, and one of the causes of this constraint
abbrev pub IsCase : Net → Case → Type 0
IsCase net [] = Unit {0}
IsCase net (choice ∷ above) =
    MaySplit net above choice.constraint × (choice.cause < count_causes (slice_get net.constraints choice.constraint)) × IsCase net above

-- the case in which the first cause of a constraint is chosen
abbrev pub first_of : ℕ → Case → Case
first_of number chosen = (record { constraint = number; cause = 0 }) ∷ chosen

-- All other open cases of a proof that is read in order, given the choices of the case at hand: one case for each cause after the chosen one, for the
-- latest choice first and then for each choice before it.
abbrev pub siblings : Net → Case → List Case
siblings net [] = []
siblings net (choice ∷ above) =
    cases_from above choice.constraint (choice.cause + 1) (count_causes (slice_get net.constraints choice.constraint) - (choice.cause + 1)) ++ siblings net above

-- the case at hand, and the others
abbrev pub open_cases : Net → Case → List Case
open_cases net chosen = chosen ∷ siblings net chosen
