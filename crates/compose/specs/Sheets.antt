-- Sheets by name and speed grade.
use Rattle.std.specs.Prelude.{◌&&◌, Bool, List, Option}
use Rattle.std.specs.List.{filter_map}
use Rattle.std.specs.Option.{option_eq}
use Rattle.std.specs.Str.{bytes_eq}
use Rattle.std.specs.declared.hash.FoldHasher.{FoldHasher}
use Rattle.std.specs.declared.hash.BuildHasherDefault.{BuildHasherDefault}
use Rattle.indexmap.specs.IndexMap.{IndexMap, get}
use Rattle.netlist.specs.declared.part.Part.{Part}
use Rattle.sheet.specs.SheetContents.{SheetView}
use Rattle.compose.specs.declared.sheet_key.SheetKey.{SheetKey}

-- the key of the sheet of a part
abbrev pub key_of : Part → SheetKey
key_of part = record { sheet = part.sheet; grade = part.grade }

-- two keys have the same name of a sheet, and the same grade or both no grade
abbrev pub same_key : SheetKey → SheetKey → Bool
same_key a b = bytes_eq a.sheet b.sheet && option_eq bytes_eq a.grade b.grade

abbrev pub SheetMap : Type 0
SheetMap = IndexMap SheetKey SheetView (BuildHasherDefault FoldHasher)

-- the sheet of a key
abbrev pub sheet_named : SheetMap → SheetKey → Option SheetView
sheet_named sheets key = get same_key sheets key

-- the sheets that parts are drawn on
abbrev pub sheets_of : SheetMap → List Part → List SheetView
sheets_of sheets parts = filter_map (λ part. sheet_named sheets (key_of part)) parts
