-- What a reading gave, with the names of the files that it had asked for.
use Rattle.std.specs.Prelude.{◌≡◌, ℕ, Bool, if◌then◌else◌, List, [], ◌∷◌}
use Rattle.itv_base.specs.Outside.{ShelfState, HasFront}
use Rattle.netlist.specs.declared.part.Part.{Part}
use Rattle.netlist.specs.Netlist.{sheet_names}
use Rattle.design_reading.specs.FileReading.{FileReading, gives, refuses, fetches}

-- over a shelf a reading gave something, after it had asked for files of these names, in this order
abbrev pub GaveAfter : {A : Type 0} → ShelfState → FileReading A → A → List (List ℕ) → Type 0
GaveAfter shelf (gives y) x names = (x ≡ y) × (names ≡ [])
GaveAfter shelf (refuses place why) x names = ⊥
GaveAfter shelf (fetches place name most next) x names =
    (bytes : List ℕ) × HasFront shelf.files name most bytes × ((rest : List (List ℕ)) × (names ≡ name ∷ rest) × GaveAfter shelf (next bytes) x rest)

-- the names of the files of a design: its own file, and for a netlist the sheets of its parts
abbrev pub files_of : List ℕ → Bool → List Part → List (List ℕ)
files_of name is_lone parts = name ∷ (if is_lone then [] else sheet_names parts)
