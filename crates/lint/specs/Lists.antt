-- Lists of what is found, and the places that warnings are about. Parts, edges, lanes, nets and pins are numbered from 0.
use Rattle.std.specs.Prelude.{ℕ, ◌+◌, Bool, true, false, List, [], ◌∷◌, ◌++◌}
use Rattle.origin.specs.declared.origin.Origin.{Origin}
use Rattle.lint.specs.declared.warning.DrawnPlace.{DrawnPlace}
use Rattle.lint.specs.declared.warning.Warning.{Warning}

-- what each element of a list gives with its number; the first element has this number
abbrev pub each_from : {X Y : Type 0} → (ℕ → X → List Y) → ℕ → List X → List Y
each_from gives number [] = []
each_from gives number (x ∷ xs) = gives number x ++ each_from gives (number + 1) xs

-- what each element of a list gives with the elements before it; before the list stand others
abbrev pub each_behind : {X Y : Type 0} → (List X → X → List Y) → List X → List X → List Y
each_behind gives before [] = []
each_behind gives before (x ∷ xs) = gives before x ++ each_behind gives (before ++ x ∷ []) xs

-- one warning where it is given, and otherwise none
abbrev pub warned : Bool → Warning → List Warning
warned true warning = warning ∷ []
warned false warning = []

abbrev pub spot : ℕ → Origin → DrawnPlace
spot part origin = record { part = part; origin = origin }

-- a place on the sheet of a part has the number of the part; a place in the netlist has part 0
abbrev pub netlist_part : ℕ
netlist_part = 0
