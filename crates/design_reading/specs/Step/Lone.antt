-- How a lone sheet is read, before it becomes the one part of a netlist.
use Rattle.std.specs.Prelude.{ℕ, List, [], None}
use Rattle.serde_json.specs.Data.{Data}
use Rattle.wavejson.specs.Drawing.{diagram_of}
use Rattle.sheet.specs.SheetContents as sheet
use Rattle.sheet.specs.Links.{plain}
use Rattle.sheet.specs.Sheet.{sheet_of}
use Rattle.netlist.specs.Netlist.{lone_netlist}
use Rattle.compose.specs.declared.sheet_key.SheetKey.{SheetKey}
use Rattle.design_plan.specs.Plan.{PlanView}
use Rattle.design_reading.specs.declared.refusal_place.RefusalPlace.{RefusalPlace}
use Rattle.design_reading.specs.declared.refusal_place.RefusalPlace.TheVariants.{File}
use Rattle.design_reading.specs.declared.refusal.Refusal.TheVariants.{Diagram, Sheet}
use Rattle.design_reading.specs.Design.{with_sheet}
use Rattle.design_reading.specs.FileReading.{FileReading, gives, ◌>>=◌, at}

-- the key of a sheet without a grade
abbrev pub plain_key : List ℕ → SheetKey
plain_key name = record { sheet = name; grade = None }

-- the sheet that a tree draws in version 1
abbrev pub plain_sheet_at : RefusalPlace → Data → FileReading sheet.SheetView
plain_sheet_at place tree = do
  drawing ← at place Diagram (diagram_of tree)
  at place Sheet (sheet_of plain drawing)

-- a lone sheet as the one part of a netlist
abbrev pub lone_plan : List ℕ → sheet.SheetView → PlanView
lone_plan name sheet = record { netlist = lone_netlist name; sheets = with_sheet [] (plain_key name) sheet }

-- the plan of a lone sheet, made from the sheet
abbrev pub lone_by_sheet : List ℕ → Data → FileReading PlanView
lone_by_sheet name tree = do
  sheet ← plain_sheet_at (File 0) tree
  gives (lone_plan name sheet)
