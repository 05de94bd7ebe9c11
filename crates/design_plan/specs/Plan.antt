-- What was read of a design.
use Rattle.std.specs.Prelude.{List, All, Option, IsSome}
use Rattle.std.specs.List.{filter_map}
use Rattle.std.specs.Map.{lookup}
use Rattle.sheet.specs.SheetContents as sheet
use Rattle.netlist.specs.declared.part.Part.{Part}
use Rattle.netlist.specs.NetlistContents.{NetlistView}
use Rattle.compose.specs.Sheets.{key_of, same_key}
use Rattle.compose.specs.declared.sheet_key.SheetKey.{SheetKey}

-- ---- sheets by their names and speed grades

abbrev pub NamedSheets : Type 0
NamedSheets = List (SheetKey × sheet.SheetView)

-- the sheet of a key
abbrev pub sheet_among : NamedSheets → SheetKey → Option sheet.SheetView
sheet_among sheets key = lookup (same_key key) sheets

-- the sheets that parts are drawn on
abbrev pub sheets_on : NamedSheets → List Part → List sheet.SheetView
sheets_on sheets parts = filter_map (λ part. sheet_among sheets (key_of part)) parts

-- ---- plans

-- what was read of a design: its netlist, and the sheets of its parts
pub record PlanView : Type 0 where
  pub netlist : NetlistView
  pub sheets : NamedSheets

-- each part has its sheet
abbrev pub IsPlan : PlanView → Type 0
IsPlan plan = All (λ (part : Part). IsSome (sheet_among plan.sheets (key_of part))) plan.netlist.parts
