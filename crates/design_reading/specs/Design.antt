-- The reading of a design: its file, and the files of its sheets, which make a plan; and what the plan draws.
use Rattle.std.specs.Prelude.{ℕ, ◌==◌, ◌&&◌, Bool, if◌then◌else◌, List, [], Option, Some, None, is_some, is_none, ok_or, codes}
use Rattle.std.specs.Str.{bytes_eq, is_utf8}
use Rattle.indexmap.specs.IndexMap.{insert_entry}
use Rattle.serde_json.specs.Data.{Data}
use Rattle.serde_json.specs.Read.{read}
use Rattle.serde_json.specs.Find.{get, as_object}
use Rattle.itv_base.specs.declared.limits.TheConstants.{FILE_LIMIT}
use Rattle.wavejson.specs.Drawing.{DiagramView, diagram_of}
use Rattle.grades.specs.declared.grade.Grade.{Grade}
use Rattle.grades.specs.Grades.{grades_of}
use Rattle.sheet.specs.SheetContents as sheet
use Rattle.sheet.specs.Sheet.{sheet_by}
use Rattle.netlist.specs.declared.part.Part.{Part}
use Rattle.netlist.specs.NetlistContents.{NetlistView}
use Rattle.netlist.specs.Netlist.{netlist_of, lone_netlist, sheet_names}
use Rattle.compose.specs.Compose.{composed_on}
use Rattle.compose.specs.Sheets.{key_of, same_key}
use Rattle.compose.specs.declared.sheet_key.SheetKey.{SheetKey}
use Rattle.design_plan.specs.Plan.{NamedSheets, PlanView, sheet_among, sheets_on}
use Rattle.drawn_networks.specs.Drawn.{Drawn}
use Rattle.unroll.specs.Limits.{unrolled}
use Rattle.design_reading.specs.declared.refusal_place.RefusalPlace.{RefusalPlace}
use Rattle.design_reading.specs.declared.refusal_place.RefusalPlace.TheVariants.{File, Design}
use Rattle.design_reading.specs.declared.refusal.Refusal.TheVariants.{NotJson, Diagram, Grades, Sheet, Netlist, Joins, Limits}
use Rattle.design_reading.specs.FileReading.{FileReading, gives, ◌>>=◌, at, each, file_at}

-- ---- files

-- the tree of a file's bytes: bytes that are no text have no tree
abbrev pub tree_of : List ℕ → Option Data
tree_of bytes = if is_utf8 bytes then read bytes else None

unfoldable pub tree_at : RefusalPlace → List ℕ → FileReading Data
tree_at place bytes = at place (λ fault. fault) (ok_or (tree_of bytes) NotJson)

-- the tree of a file
abbrev pub tree_in : RefusalPlace → List ℕ → FileReading Data
tree_in place name = do
  bytes ← file_at place name FILE_LIMIT
  tree_at place bytes

-- ---- sheets by their names and speed grades

-- sheets with one more sheet
abbrev pub with_sheet : NamedSheets → SheetKey → sheet.SheetView → NamedSheets
with_sheet sheets key sheet = insert_entry same_key sheets key sheet

-- ---- the sheets of files

-- the speed grades of a file; in version 1 there are none, and what stands under their key is ignored
abbrev pub grades_in : ℕ → RefusalPlace → Data → FileReading (Option (List Grade))
grades_in version place tree =
    if version == 2 then (at place Grades (grades_of tree) >>= λ grades. gives (Some grades)) else gives None

-- the part is drawn on the sheet of this name, and this sheet is not read yet at the grade of the part
abbrev pub is_unread : NamedSheets → List ℕ → Part → Bool
is_unread sheets name part = bytes_eq name part.sheet && is_none (sheet_among sheets (key_of part))

-- The sheets with the sheet of one more part, if the part is drawn on this file at a grade, or at none, that no part before it named.
abbrev pub with_part : RefusalPlace → List ℕ → Option (List Grade) → DiagramView → ℕ → NamedSheets → Part → FileReading NamedSheets
with_part place name grades drawing n sheets part =
    if is_unread sheets name part
    then (at place Sheet (sheet_by grades part.grade drawing) >>= λ sheet. gives (with_sheet sheets (key_of part) sheet))
    else gives sheets

-- The sheets that the tree of a file draws, after the sheets that are read already: one for each grade or none, in the order in which the parts first
-- mention them. The grades are read before the sheets, also where no part has a grade.
abbrev pub sheets_at : NetlistView → ℕ → NamedSheets → List ℕ → Data → FileReading NamedSheets
sheets_at netlist number sheets name tree = do
  drawing ← at (File number) Diagram (diagram_of tree)
  grades ← grades_in netlist.version (File number) tree
  each (with_part (File number) name grades drawing) 0 sheets netlist.parts

-- the sheets of a file
abbrev pub sheets_in : NetlistView → ℕ → NamedSheets → List ℕ → FileReading NamedSheets
sheets_in netlist number sheets name = do
  tree ← tree_in (File number) name
  sheets_at netlist number sheets name tree

-- the sheets of files, which are files 1, 2 and so on
abbrev pub sheets_of_files : NetlistView → List (List ℕ) → FileReading NamedSheets
sheets_of_files netlist names = each (sheets_in netlist) 1 [] names

-- ---- plans

-- the plan of a lone sheet: a netlist with one part, which is drawn on the sheet
abbrev pub lone_at : List ℕ → Data → FileReading PlanView
lone_at name tree = do
  sheets ← sheets_at (lone_netlist name) 0 [] name tree
  gives (record { netlist = lone_netlist name; sheets = sheets })

-- The plan of a netlist. The sheets that it names are fetched in the order of first mention, as files 1, 2 and so on.
abbrev pub netlist_at : Data → FileReading PlanView
netlist_at tree = do
  netlist ← at (File 0) Netlist (netlist_of tree)
  sheets ← sheets_of_files netlist (sheet_names netlist.parts)
  gives (record { netlist = netlist; sheets = sheets })

-- An object without the key `itv` is a lone sheet. Any other tree is read, or refused, as a netlist.
abbrev pub tree_planned : List ℕ → Data → FileReading PlanView
tree_planned name tree = if is_some (as_object tree) && is_none (get (codes "itv") tree) then lone_at name tree else netlist_at tree

-- the plan of the design of a file
abbrev pub plan_at : List ℕ → FileReading PlanView
plan_at name = do
  tree ← tree_in (File 0) name
  tree_planned name tree

-- ---- designs

-- What a netlist and its sheets draw. The faults of joins come before the limits.
unfoldable pub drawn_at : NetlistView → NamedSheets → FileReading Drawn
drawn_at netlist sheets = do
  design ← at Design Joins (composed_on netlist (sheets_on sheets netlist.parts))
  at Design Limits (unrolled design)

-- what the design of a file draws
abbrev pub design_at : List ℕ → FileReading Drawn
design_at name = do
  plan ← plan_at name
  drawn_at plan.netlist plan.sheets
