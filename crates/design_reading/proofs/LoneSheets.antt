-- The plan of a lone sheet is the plan of the one sheet that its tree draws in version 1.
use Rattle.std.proofs.Common.{◌≡◌, ℕ, ◌&&◌, Bool, true, false, cond, List, [], None, Result, Ok, Err, refl}
use Rattle.std.specs.Str.{bytes_eq}
use Rattle.std.proofs.lemmas.Slice.Eq.{bytes_eq-Decides}
use Rattle.serde_json.specs.Data.{Data}
use Rattle.wavejson.specs.declared.fault.DiagramFault.{DiagramFault}
use Rattle.wavejson.specs.Drawing.{DiagramView, diagram_of}
use Rattle.sheet.specs.declared.fault.SheetFault.{SheetFault}
use Rattle.sheet.specs.SheetContents.{SheetView}
use Rattle.sheet.specs.Links.{plain}
use Rattle.sheet.specs.Sheet.{sheet_of}
use Rattle.netlist.specs.Netlist.{lone_netlist}
use Rattle.design_reading.specs.declared.refusal_place.RefusalPlace.TheVariants.{File}
use Rattle.design_reading.specs.declared.refusal.Refusal.TheVariants.{Diagram, Sheet}
use Rattle.design_plan.specs.Plan.{NamedSheets, PlanView}
use Rattle.design_reading.specs.Design.{grades_in, lone_at, with_part, with_sheet}
use Rattle.design_reading.specs.FileReading.{FileReading, ◌>>=◌, at, each, gives}
use Rattle.design_reading.specs.Step.Lone.{lone_by_sheet, lone_plan, plain_key}

module _ (name : List ℕ) where
  abbrev planned : NamedSheets → FileReading PlanView
  planned sheets = gives (record { netlist = lone_netlist name; sheets = sheets })

  -- the one part is drawn on the file
  sheet_then : (test : Bool) → test ≡ true → (read : Result SheetView SheetFault)
      → ((cond (test && true) (at (File 0) Sheet read >>= (λ sheet. gives (with_sheet [] (plain_key name) sheet))) (gives []) >>= (λ more. gives more)) >>= planned)
      ≡ (at (File 0) Sheet read >>= (λ sheet. gives (lone_plan name sheet)))
  sheet_then true is (Ok sheet) = refl
  sheet_then true is (Err fault) = refl
  sheet_then false is read = absurd (cc is)

  drawing_then : (tree : Data) (read : Result DiagramView DiagramFault)
      → ((at (File 0) Diagram read >>= (λ drawing. grades_in 1 (File 0) tree >>= (λ grades. each (with_part (File 0) name grades drawing) 0 [] (lone_netlist name).parts))) >>= planned)
      ≡ ((at (File 0) Diagram read >>= (λ drawing. at (File 0) Sheet (sheet_of plain drawing))) >>= (λ sheet. gives (lone_plan name sheet)))
  drawing_then tree (Ok drawing) = sheet_then (bytes_eq name name) ((bytes_eq-Decides name name).1 refl) (sheet_of plain drawing)
  drawing_then tree (Err fault) = refl

  pub lone_is : (tree : Data) → lone_at name tree ≡ lone_by_sheet name tree
  lone_is tree = drawing_then tree (diagram_of tree)
