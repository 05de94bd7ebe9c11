-- The choices of a case, with a table that has them by constraint.
use Rattle.std.specs.Prelude.{◌≡◌, ◌<◌, ◌≤◌, ℕ, List, [], ◌∷◌, length, reverse, Option, None, slice_index_or, vec_capacity}
use Rattle.event_graph.specs.Cases.{DecisionsView, cause_chosen}
use Rattle.event_graph.specs.Proof.{Case}
use Rattle.event_graph.specs.declared.decisions.Decisions.TheInside.{Inside}

-- each choice is of a constraint with a number below `room`, and no choice before it is of the same constraint
abbrev pub AreChoices : ℕ → Case → Type 0
AreChoices room [] = Unit {0}
AreChoices room (choice ∷ above) = (choice.constraint < room) × (cause_chosen above choice.constraint ≡ None) × AreChoices room above

abbrev pub chosen_in : Inside → DecisionsView
chosen_in d = record { room = length d.causes.items; chosen = reverse d.choices.items }

-- each choice is of a constraint that has a place in the table, and the table has the choice of each constraint
pub record IsTable (causes : List (Option ℕ)) (chosen : Case) : Type 0 where
  pub choices : AreChoices (length causes) chosen
  pub each : (number : ℕ) → number < length causes → slice_index_or causes number None ≡ cause_chosen chosen number

-- there is room for a choice of each constraint
pub record IsNoted (d : Inside) : Type 0 where
  pub room : length d.causes.items ≤ vec_capacity d.choices
  pub table : IsTable d.causes.items (reverse d.choices.items)
