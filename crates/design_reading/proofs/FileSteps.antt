-- The sheets of a file, step by step.
use Rattle.std.proofs.Common.{◌≡◌, ℕ, ◌==◌, ◌&&◌, Bool, true, false, List, Option, Some, None, Result, Ok, Err, IsErrAnd, refl, ap, subst}
use Rattle.std.specs.Prelude.{is_none, is_some}
use Rattle.std.specs.Str.{bytes_eq}
use Rattle.serde_json.specs.Data.{Data}
use Rattle.itv_base.specs.Outside.{ShelfState}
use Rattle.itv_base.specs.Reading.{IsReadingFault}
use Rattle.wavejson.specs.declared.fault.DiagramFault.{DiagramFault}
use Rattle.wavejson.specs.Drawing.{DiagramView, diagram_of}
use Rattle.wavejson.specs.Fault.{is_memory as is_diagram_memory}
use Rattle.grades.specs.declared.grade.Grade.{Grade}
use Rattle.grades.specs.declared.fault.GradesFault.{GradesFault}
use Rattle.grades.specs.Fault.{is_memory as is_grades_memory}
use Rattle.grades.specs.Grades.{grades_of}
use Rattle.sheet.specs.SheetContents.{SheetView}
use Rattle.sheet.specs.Sheet.{sheet_by}
use Rattle.netlist.specs.declared.part.Part.{Part}
use Rattle.netlist.specs.NetlistContents.{NetlistView}
use Rattle.compose.specs.Sheets.{key_of}
use Rattle.design_reading.specs.declared.refusal_place.RefusalPlace.{RefusalPlace}
use Rattle.design_reading.specs.declared.refusal_place.RefusalPlace.TheVariants.{File}
use Rattle.design_reading.specs.declared.refusal.Refusal.TheVariants.{Diagram, Grades, Sheet}
use Rattle.design_reading.specs.declared.stop.Stop.{Stop}
use Rattle.design_reading.specs.FileReading.{FileReading, gives, at, each, ready, ◌>>=◌}
use Rattle.design_plan.specs.Plan.{NamedSheets, sheet_among}
use Rattle.design_reading.specs.Design.{grades_in, is_unread, sheets_at, with_part, with_sheet}
use Rattle.design_reading.specs.Step.{Opens, stop_of}
use Rattle.design_reading.proofs.Opens.{at_ok, at_err, opens_stop, opens_then, opens_up}

-- ---- grades

module _ (state : ShelfState) (version : ℕ) (place : RefusalPlace) (tree : Data) where
  abbrev Told : Result (Option (List Grade)) Stop → Type 0
  Told r = Opens (λ (g : Option (List Grade)). g) state state (grades_in version place tree) r

  pub grades_none : (version == 2) ≡ false → Told (Ok None)
  grades_none other = rw other (refl, refl)

  module _ (second : (version == 2) ≡ true) where
    pub grades_some : (grades : List Grade) → grades_of tree ≡ Ok grades → Told (Ok (Some grades))
    grades_some grades is = rw (second, is) (refl, refl)

    pub grades_refused : (fault : GradesFault) → IsReadingFault is_grades_memory (grades_of tree) fault → Told (Err (stop_of is_grades_memory Grades place fault))
    grades_refused fault h =
        rw second
        (opens_stop (λ (g : List Grade). g) (λ (g : Option (List Grade)). g) (at place Grades (grades_of tree)) (λ grades. gives (Some grades)) state state (stop_of is_grades_memory Grades place fault)
        (at_err is_grades_memory (λ (g : List Grade). g) state place Grades (grades_of tree) fault h))

-- ---- the sheet of one part

on_file : (here unread : Bool) → here ≡ true → unread ≡ true → (here && unread) ≡ true
on_file here unread h u = rw (h, u) refl

other_file : (here unread : Bool) → here ≡ false → (here && unread) ≡ false
other_file here unread h = rw h refl

known_file : (here unread : Bool) → unread ≡ false → (here && unread) ≡ false
known_file true unread u = u
known_file false unread u = refl

none_if : {A : Type 0} (o : Option A) → is_some o ≡ false → is_none o ≡ true
none_if None is = refl
none_if (Some x) is = absurd (cc is)

some_if : {A : Type 0} (o : Option A) → is_some o ≡ true → is_none o ≡ false
some_if None is = absurd (cc is)
some_if (Some x) is = refl

module _ (state : ShelfState) (place : RefusalPlace) (name : List ℕ) (grades : Option (List Grade)) (drawing : DiagramView) (n : ℕ) (sheets : NamedSheets) (part : Part) where
  module _ {Y : Type 0} (v : Y → NamedSheets) where
    passed : (y : Y) → is_unread sheets name part ≡ false → v y ≡ sheets → Opens v state state (with_part place name grades drawing n sheets part) (Ok y)
    passed y known same = rw known (ap (λ x. ready x) same, refl)

    -- the part is drawn on another file
    pub part_other : (y : Y) → bytes_eq name part.sheet ≡ false → v y ≡ sheets → Opens v state state (with_part place name grades drawing n sheets part) (Ok y)
    part_other y other same = passed y (other_file (bytes_eq name part.sheet) (is_none (sheet_among sheets (key_of part))) other) same

    -- its sheet is read already
    pub part_known : (y : Y) → is_some (sheet_among sheets (key_of part)) ≡ true → v y ≡ sheets → Opens v state state (with_part place name grades drawing n sheets part) (Ok y)
    part_known y known same = passed y (known_file (bytes_eq name part.sheet) (is_none (sheet_among sheets (key_of part))) (some_if (sheet_among sheets (key_of part)) known)) same

    module _ (here : bytes_eq name part.sheet ≡ true) (new : is_some (sheet_among sheets (key_of part)) ≡ false) where
      unread : is_unread sheets name part ≡ true
      unread = on_file (bytes_eq name part.sheet) (is_none (sheet_among sheets (key_of part))) here (none_if (sheet_among sheets (key_of part)) new)

      -- its sheet can't be read
      pub part_stop : (s : Stop) (r : Result Y Stop) → IsErrAnd r (λ e. e ≡ s) → Opens (λ (c : SheetView). c) state state (at place Sheet (sheet_by grades part.grade drawing)) (Err s)
          → Opens v state state (with_part place name grades drawing n sheets part) r
      part_stop s r is h =
          rw unread (opens_up (λ (c : SheetView). c) v (at place Sheet (sheet_by grades part.grade drawing)) (λ sheet. gives (with_sheet sheets (key_of part) sheet)) state state s r is h)

      -- its sheet is added
      pub part_put : (sheet : SheetView) (y : Y) → Opens (λ (c : SheetView). c) state state (at place Sheet (sheet_by grades part.grade drawing)) (Ok sheet) → v y ≡ with_sheet sheets (key_of part) sheet
          → Opens v state state (with_part place name grades drawing n sheets part) (Ok y)
      part_put sheet y h same =
          rw unread (opens_then (λ (c : SheetView). c) v (at place Sheet (sheet_by grades part.grade drawing)) (λ sheet. gives (with_sheet sheets (key_of part) sheet)) state state state sheet (Ok y) h (ap (λ x. ready x) same, refl))

-- ---- the sheets of a tree

module _ (state : ShelfState) (netlist : NetlistView) (number : ℕ) (sheets : NamedSheets) (name : List ℕ) (tree : Data) where
  abbrev parts_from : DiagramView → Option (List Grade) → FileReading NamedSheets
  parts_from drawing grades = each (with_part (File number) name grades drawing) 0 sheets netlist.parts

  abbrev grades_from : DiagramView → FileReading NamedSheets
  grades_from drawing = grades_in netlist.version (File number) tree >>= (λ grades. parts_from drawing grades)

  module _ {Y : Type 0} (v : Y → NamedSheets) where
    pub diagram_refused : (fault : DiagramFault) → IsReadingFault is_diagram_memory (diagram_of tree) fault → Opens v state state (sheets_at netlist number sheets name tree) (Err (stop_of is_diagram_memory Diagram (File number) fault))
    diagram_refused fault h =
        opens_stop (λ (d : DiagramView). d) v (at (File number) Diagram (diagram_of tree)) grades_from state state (stop_of is_diagram_memory Diagram (File number) fault)
        (at_err is_diagram_memory (λ (d : DiagramView). d) state (File number) Diagram (diagram_of tree) fault h)

    module _ (drawing : DiagramView) (is : diagram_of tree ≡ Ok drawing) where
      drawn : (r : Result Y Stop) → Opens v state state (grades_from drawing) r → Opens v state state (sheets_at netlist number sheets name tree) r
      drawn r h = opens_then (λ (d : DiagramView). d) v (at (File number) Diagram (diagram_of tree)) grades_from state state state drawing r (at_ok state (File number) Diagram (diagram_of tree) drawing is, refl) h

      module _ (version : ℕ) (same : version ≡ netlist.version) where
        pub grades_up : (s : Stop) (r : Result Y Stop) → IsErrAnd r (λ e. e ≡ s) → Opens (λ (g : Option (List Grade)). g) state state (grades_in version (File number) tree) (Err s)
            → Opens v state state (sheets_at netlist number sheets name tree) r
        grades_up s r err h =
            let read : Opens (λ (g : Option (List Grade)). g) state state (grades_in netlist.version (File number) tree) (Err s) =
            subst (λ (n : ℕ). Opens (λ (g : Option (List Grade)). g) state state (grades_in n (File number) tree) (Err s)) same h in
            drawn r (opens_up (λ (g : Option (List Grade)). g) v (grades_in netlist.version (File number) tree) (parts_from drawing) state state s r err read)

        pub parts_on : (grades : Option (List Grade)) (r : Result Y Stop) → Opens (λ (g : Option (List Grade)). g) state state (grades_in version (File number) tree) (Ok grades)
            → Opens v state state (parts_from drawing grades) r → Opens v state state (sheets_at netlist number sheets name tree) r
        parts_on grades r h parts =
            let read : Opens (λ (g : Option (List Grade)). g) state state (grades_in netlist.version (File number) tree) (Ok grades) =
            subst (λ (n : ℕ). Opens (λ (g : Option (List Grade)). g) state state (grades_in n (File number) tree) (Ok grades)) same h in
            drawn r (opens_then (λ (g : Option (List Grade)). g) v (grades_in netlist.version (File number) tree) (parts_from drawing) state state state grades r read parts)
