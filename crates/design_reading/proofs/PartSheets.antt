-- Each part has its sheet among the sheets that were read.
use Rattle.std.proofs.Common.{◌≡◌, ℕ, Bool, true, false, cond, if◌then◌else◌, List, [], ◌∷◌, All, Option, Some, None, IsSome, refl, sym, subst}
use Rattle.std.specs.Prelude.{is_none}
use Rattle.std.specs.Str.{bytes_eq}
use Rattle.std.proofs.lemmas.List.Elements.{All-cons, All-nil, All-weaker}
use Rattle.std.proofs.lemmas.Slice.Eq.{bytes_eq-Decides}
use Rattle.itv_base.specs.Outside.{ShelfState}
use Rattle.itv_base.proofs.Bools.{other_false}
use Rattle.wavejson.specs.Drawing.{DiagramView, diagram_of}
use Rattle.grades.specs.declared.grade.Grade.{Grade}
use Rattle.sheet.specs.SheetContents.{SheetView}
use Rattle.sheet.specs.Sheet.{sheet_by}
use Rattle.netlist.specs.declared.part.Part.{Part}
use Rattle.netlist.specs.NetlistContents.{NetlistView}
use Rattle.netlist.specs.Netlist.{lone_netlist, sheet_names}
use Rattle.netlist.proofs.SheetNames.{sheets_hold}
use Rattle.compose.specs.declared.sheet_key.SheetKey.{SheetKey}
use Rattle.compose.specs.Sheets.{key_of, same_key}
use Rattle.compose.proofs.Keys.{same_key_itself}
use Rattle.design_reading.specs.declared.refusal_place.RefusalPlace.{RefusalPlace}
use Rattle.design_reading.specs.declared.refusal_place.RefusalPlace.TheVariants.{File}
use Rattle.design_reading.specs.declared.refusal.Refusal.TheVariants.{Diagram, Sheet}
use Rattle.design_reading.specs.FileReading.{gives, at, each, RunsTo, ready, ◌>>=◌}
use Rattle.design_plan.specs.Plan.{NamedSheets, sheet_among}
use Rattle.design_reading.specs.Design.{grades_in, is_unread, sheets_at, sheets_in, sheets_of_files, tree_in, with_part, with_sheet}
use Rattle.design_reading.specs.Step.Lone.{plain_key}
use Rattle.design_reading.proofs.Opens.{gave, opening_then, each_keeps, each_brings}

-- the sheet of a key is among the sheets
abbrev pub IsThere : SheetKey → NamedSheets → Type 0
IsThere key sheets = IsSome (sheet_among sheets key)

-- ---- one more sheet

found_here : (test : Bool) (sheet : SheetView) (rest : Option SheetView) → test ≡ true → IsSome (cond test (Some sheet) rest)
found_here true sheet rest is = refl
found_here false sheet rest is = absurd (cc is)

-- a search that finds a sheet at its first entry, or in the rest, still finds one where the rest finds as much
found_too : (test : Bool) (old new : SheetView) (rest more : Option SheetView) → (IsSome rest → IsSome more) → IsSome (cond test (Some old) rest) → IsSome (cond test (Some new) more)
found_too true old new rest more on is = refl
found_too false old new rest more on is = on is

-- a sheet that was added is there
pub sheet_added : (sheets : NamedSheets) (key : SheetKey) (sheet : SheetView) → IsThere key (with_sheet sheets key sheet)
sheet_added [] key sheet = found_here (same_key key key) sheet None (same_key_itself key)
sheet_added (e ∷ es) key sheet = at (same_key key e.0) refl (sheet_added es key sheet)
  where
    at : (b : Bool) → same_key key e.0 ≡ b → IsThere key (with_sheet es key sheet) → IsThere key (cond b ((e.0, sheet) ∷ es) (e ∷ with_sheet es key sheet))
    at true is rest = found_here (same_key key e.0) sheet (sheet_among es key) is
    at false is rest = subst (λ t. IsSome (cond t (Some e.1) (sheet_among (with_sheet es key sheet) key))) (sym is) rest

-- and the sheets that were there still are
pub sheet_kept : (sheets : NamedSheets) (key other : SheetKey) (sheet : SheetView) → IsThere other sheets → IsThere other (with_sheet sheets key sheet)
sheet_kept [] key other sheet there = absurd (cc there)
sheet_kept (e ∷ es) key other sheet there = at (same_key key e.0) (sheet_kept es key other sheet) there
  where
    at : (b : Bool) → (IsThere other es → IsThere other (with_sheet es key sheet)) → IsThere other (e ∷ es) → IsThere other (cond b ((e.0, sheet) ∷ es) (e ∷ with_sheet es key sheet))
    at true rest there = found_too (same_key other e.0) e.1 sheet (sheet_among es other) (sheet_among es other) (λ is. is) there
    at false rest there = found_too (same_key other e.0) e.1 e.1 (sheet_among es other) (sheet_among (with_sheet es key sheet) other) rest there

-- the sheet of the one part of the netlist of a lone sheet is there
pub lone_drawn : (name : List ℕ) (netlist : NetlistView) (sheets : NamedSheets) (sheet : SheetView) → netlist ≡ lone_netlist name → sheets ≡ with_sheet [] (plain_key name) sheet
    → All (λ (part : Part). IsThere (key_of part) sheets) netlist.parts
lone_drawn name netlist sheets sheet is has =
    let one : All (λ (part : Part). IsThere (key_of part) (with_sheet [] (plain_key name) sheet)) (lone_netlist name).parts =
    All-cons (λ (part : Part). IsThere (key_of part) (with_sheet [] (plain_key name) sheet)) _ [] (sheet_added [] (plain_key name) sheet) (All-nil (λ (part : Part). IsThere (key_of part) (with_sheet [] (plain_key name) sheet))) in
    let same : All (λ (part : Part). IsThere (key_of part) sheets) (lone_netlist name).parts = subst (λ (es : NamedSheets). All (λ (part : Part). IsThere (key_of part) es) (lone_netlist name).parts) (sym has) one in
    subst (λ (n : NetlistView). All (λ (part : Part). IsThere (key_of part) sheets) n.parts) (sym is) same

-- ---- the parts of one file

some_if : {A : Type 0} (o : Option A) → is_none o ≡ false → IsSome o
some_if None is = absurd (cc is)
some_if (Some x) is = refl

module _ (shelf : ShelfState) (place : RefusalPlace) (name : List ℕ) (grades : Option (List Grade)) (drawing : DiagramView) where
  -- a part that is drawn on the file has its sheet after it
  part_brings : (n : ℕ) (sheets more : NamedSheets) (part : Part) → RunsTo shelf (with_part place name grades drawing n sheets part) (ready more) → part.sheet ≡ name → IsThere (key_of part) more
  part_brings n sheets more part comes named = by (is_unread sheets name part) refl comes
    where
      by : (b : Bool) → is_unread sheets name part ≡ b
          → RunsTo shelf (if b then (at place Sheet (sheet_by grades part.grade drawing) >>= (λ sheet. gives (with_sheet sheets (key_of part) sheet))) else gives sheets) (ready more) → IsThere (key_of part) more
      by true unread came =
          let (sheet, first, rest) = opening_then shelf (at place Sheet (sheet_by grades part.grade drawing)) (λ sheet. gives (with_sheet sheets (key_of part) sheet)) more came in
          subst (IsThere (key_of part)) (gave shelf (with_sheet sheets (key_of part) sheet) more rest) (sheet_added sheets (key_of part) sheet)
      by false known came =
          let same : bytes_eq name part.sheet ≡ true = (bytes_eq-Decides name part.sheet).1 (sym named) in
          subst (IsThere (key_of part)) (gave shelf sheets more came) (some_if (sheet_among sheets (key_of part)) (other_false (bytes_eq name part.sheet) (is_none (sheet_among sheets (key_of part))) same known))

  part_keeps : (key : SheetKey) (n : ℕ) (sheets more : NamedSheets) (part : Part) → IsThere key sheets → RunsTo shelf (with_part place name grades drawing n sheets part) (ready more) → IsThere key more
  part_keeps key n sheets more part there comes = by (is_unread sheets name part) comes
    where
      by : (b : Bool) → RunsTo shelf (if b then (at place Sheet (sheet_by grades part.grade drawing) >>= (λ sheet. gives (with_sheet sheets (key_of part) sheet))) else gives sheets) (ready more) → IsThere key more
      by true came =
          let (sheet, first, rest) = opening_then shelf (at place Sheet (sheet_by grades part.grade drawing)) (λ sheet. gives (with_sheet sheets (key_of part) sheet)) more came in
          subst (IsThere key) (gave shelf (with_sheet sheets (key_of part) sheet) more rest) (sheet_kept sheets (key_of part) key sheet there)
      by false came = subst (IsThere key) (gave shelf sheets more came) there

-- ---- files

-- each part that is drawn on a sheet of this name has its sheet
abbrev pub AreDrawn : List Part → List ℕ → NamedSheets → Type 0
AreDrawn parts name sheets = All (λ (part : Part). part.sheet ≡ name → IsThere (key_of part) sheets) parts

module _ (shelf : ShelfState) (netlist : NetlistView) where
  -- the steps of the reading of a file
  file_parts : (number : ℕ) (sheets more : NamedSheets) (name : List ℕ) → RunsTo shelf (sheets_in netlist number sheets name) (ready more)
      → (drawing : DiagramView) × (grades : Option (List Grade)) × RunsTo shelf (each (with_part (File number) name grades drawing) 0 sheets netlist.parts) (ready more)
  file_parts number sheets more name comes =
      let (tree, fetched, read) = opening_then shelf (tree_in (File number) name) (λ tree. sheets_at netlist number sheets name tree) more comes in
      let (drawing, drawn, rest) = opening_then shelf (at (File number) Diagram (diagram_of tree)) (λ drawing. grades_in netlist.version (File number) tree >>= (λ grades. each (with_part (File number) name grades drawing) 0 sheets netlist.parts)) more read in
      let (grades, state, last) = opening_then shelf (grades_in netlist.version (File number) tree) (λ grades. each (with_part (File number) name grades drawing) 0 sheets netlist.parts) more rest in
      (drawing, grades, last)

  file_brings : (number : ℕ) (sheets more : NamedSheets) (name : List ℕ) → RunsTo shelf (sheets_in netlist number sheets name) (ready more) → AreDrawn netlist.parts name more
  file_brings number sheets more name comes =
      let (drawing, grades, last) = file_parts number sheets more name comes in
      each_brings (λ (part : Part) sheets. part.sheet ≡ name → IsThere (key_of part) sheets) shelf (with_part (File number) name grades drawing)
      (part_brings shelf (File number) name grades drawing)
      (λ y n a b x holds came named. part_keeps shelf (File number) name grades drawing (key_of y) n a b x (holds named) came) 0 sheets more netlist.parts last

  file_keeps : (key : SheetKey) (number : ℕ) (sheets more : NamedSheets) (name : List ℕ) → IsThere key sheets → RunsTo shelf (sheets_in netlist number sheets name) (ready more) → IsThere key more
  file_keeps key number sheets more name there comes =
      let (drawing, grades, last) = file_parts number sheets more name comes in
      each_keeps (IsThere key) shelf (with_part (File number) name grades drawing) (part_keeps shelf (File number) name grades drawing key) 0 sheets more netlist.parts there last

  files_bring : (names : List (List ℕ)) (sheets : NamedSheets) → RunsTo shelf (sheets_of_files netlist names) (ready sheets) → All (λ name. AreDrawn netlist.parts name sheets) names
  files_bring names sheets comes =
      each_brings (λ name sheets. AreDrawn netlist.parts name sheets) shelf (sheets_in netlist) file_brings
      (λ name n a b x holds came. All-weaker (λ (part : Part). part.sheet ≡ name → IsThere (key_of part) a) (λ (part : Part). part.sheet ≡ name → IsThere (key_of part) b)
      (λ part is named. file_keeps (key_of part) n a b x (is named) came) netlist.parts holds) 1 [] sheets names comes

  -- the sheet of each part is there
  pub parts_drawn : (sheets : NamedSheets) → RunsTo shelf (sheets_of_files netlist (sheet_names netlist.parts)) (ready sheets) → All (λ (part : Part). IsThere (key_of part) sheets) netlist.parts
  parts_drawn sheets comes =
      let by_sheet : All (λ (part : Part). AreDrawn netlist.parts part.sheet sheets) netlist.parts = sheets_hold (λ name. AreDrawn netlist.parts name sheets) netlist.parts (files_bring (sheet_names netlist.parts) sheets comes) in
      λ k d within. by_sheet k d within k d within refl
