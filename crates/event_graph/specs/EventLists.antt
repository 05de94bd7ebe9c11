-- Lists of values, one list for each event.
use Rattle.std.specs.Prelude.{ℕ, List, [], map, slice_index_or}
use Rattle.std.specs.Global.{Vec}

-- the list of an event, which is empty if there is no such event
abbrev pub at_event : {T : Type 0} → List (List T) → ℕ → List T
at_event lists event = slice_index_or lists event []

-- the lists that are kept in vectors
abbrev pub lists_of : {T : Type 0} → List (Vec T) → List (List T)
lists_of {T} lists = map (λ (list : Vec T). list.items) lists
