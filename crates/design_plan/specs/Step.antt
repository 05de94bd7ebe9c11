-- How a plan keeps where the sheets of its parts stand.
use Rattle.std.specs.Prelude.{◌≡◌, ℕ, List, map, slice_get}
use Rattle.std.specs.Map.{values_of}
use Rattle.netlist.specs.declared.part.Part.{Part}
use Rattle.compose.specs.Sheets.{key_of}
use Rattle.design_plan.specs.Plan.{NamedSheets, sheet_among}

-- part by part, the sheet of the part stands at its place
abbrev pub ArePartPlaces : NamedSheets → List Part → List ℕ → Type 0
ArePartPlaces sheets parts places = map (slice_get (values_of sheets)) places ≡ map (λ (part : Part). sheet_among sheets (key_of part)) parts
