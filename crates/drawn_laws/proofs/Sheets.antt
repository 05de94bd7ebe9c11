-- The marks of sheets.
use Rattle.std.proofs.Common.{◌≡◌, ℕ, Bool, true, false, if◌then◌else◌, List, [], ◌∷◌, map, cond, All, Option, Some, None, Result, Ok, refl, ap, subst, nat_eq, position}
use Rattle.std.specs.Prelude.{IsTrue, IfSome}
use Rattle.std.specs.List.{filter_map, flat_map, enumerate_from}
use Rattle.std.proofs.lemmas.List.Elements.{All-append, All-cons, All-head, All-nil, All-tail, All-weaker}
use Rattle.itv_base.specs.Characters.{is_mark}
use Rattle.wavejson.specs.Drawing.{DiagramView}
use Rattle.wavejson.specs.declared.lane_text.LaneText.{LaneText}
use Rattle.netlist.specs.declared.part.Part.{Part}
use Rattle.sheet.specs.declared.mark.Mark.{Mark}
use Rattle.sheet.specs.SheetContents.{SheetView}
use Rattle.sheet.specs.declared.fault.SheetFault.{SheetFault}
use Rattle.sheet.specs.declared.fault.SheetFault.TheVariants.{BadNode, DoubleMark}
use Rattle.itv_base.specs.Reading.{unless}
use Rattle.sheet.specs.Lanes.{drawn_kind, first_repeated, has_bad_node, lane_marks, mark_at, marks_of, node_of}
use Rattle.grades.specs.declared.grade.Grade.{Grade}
use Rattle.sheet.specs.Links.{Labels, plain, graded, links_of}
use Rattle.sheet.specs.Sheet.{grade_named, read_marks, read_pins, sheet_at, sheet_by, sheet_of}
use Rattle.compose.specs.Sheets.{key_of, same_key}
use Rattle.compose.specs.declared.sheet_key.SheetKey.{SheetKey}
use Rattle.sheet.specs.Whole.{IsWhole}
use Rattle.sheet.proofs.WholeSheets.{more_hold}
use Rattle.design_plan.specs.Plan.{NamedSheets, sheet_among, sheets_on}
use Rattle.design_reading.specs.Design.{with_sheet}
use Rattle.std.proofs.lemmas.Bool.{eq-eqb}
use Rattle.drawn_laws.proofs.Apart.{AreApart, keys_apart}
use Rattle.drawn_laws.proofs.Steps.{result_then, unless_gave, unless_none}

-- the name of a mark is a character that a mark may have
abbrev pub IsMarked : Mark → Type 0
IsMarked mark = IsTrue (is_mark mark.name)

-- the marks have such names, and no mark occurs twice
abbrev pub AreMarks : List Mark → Type 0
AreMarks marks = All IsMarked marks × AreApart (map (λ (mark : Mark). mark.name) marks)

abbrev pub HasMarks : SheetView → Type 0
HasMarks sheet = AreMarks sheet.marks

-- ---- lists that are read element by element

pub all_filtered : {X Y : Type 0} (P : Y → Type 0) (h : X → Option Y) → ((x : X) → IfSome (h x) P) → (xs : List X) → All P (filter_map h xs)
all_filtered P h each [] = All-nil P
all_filtered P h each (x ∷ xs) = more_hold P (h x) (filter_map h xs) (each x) (all_filtered P h each xs)

pub all_flat : {X Y : Type 0} (P : Y → Type 0) (f : X → List Y) → ((x : X) → All P (f x)) → (xs : List X) → All P (flat_map f xs)
all_flat P f each [] = All-nil P
all_flat P f each (x ∷ xs) = All-append P (f x) (flat_map f xs) (each x) (all_flat P f each xs)

-- ---- the marks of one sheet

marked_if : (b : Bool) (mark : Mark) → (b ≡ true → IsMarked mark) → IfSome (if b then Some mark else None) IsMarked
marked_if true mark holds = holds refl
marked_if false mark holds = tt

mark_holds : (number : ℕ) (lane : LaneText) (place : ℕ × ℕ) → IfSome (mark_at number lane place) IsMarked
mark_holds number lane place =
    marked_if (is_mark place.1) (record { lane = number; place = place.0; name = place.1; kind = drawn_kind lane.wave place.0 }) (λ is. is)

marks_hold : (lanes : List LaneText) → All IsMarked (marks_of lanes)
marks_hold lanes =
    all_flat IsMarked lane_marks (λ lane. all_filtered IsMarked (mark_at lane.0 lane.1) (mark_holds lane.0 lane.1) (enumerate_from 0 (node_of lane.1))) (enumerate_from 0 lanes)

read_marks_hold : (lanes : List LaneText) (marks : List Mark) → read_marks lanes ≡ Ok marks → AreMarks marks
unfolding read_marks
read_marks_hold lanes marks is =
    let (some, first, rest) = result_then (unless (position has_bad_node lanes) (λ n. BadNode n) lanes) _ marks is in
    let same : marks_of some ≡ marks =
    unless_gave (first_repeated nat_eq (λ (mark : Mark). mark.name) [] (marks_of some)) (λ (mark : Mark). DoubleMark mark.name) (marks_of some) marks rest in
    let once : first_repeated nat_eq (λ (mark : Mark). mark.name) [] (marks_of some) ≡ None =
    unless_none (first_repeated nat_eq (λ (mark : Mark). mark.name) [] (marks_of some)) (λ (mark : Mark). DoubleMark mark.name) (marks_of some) marks rest in
    subst AreMarks same (marks_hold some, keys_apart nat_eq (λ (mark : Mark). mark.name) eq-eqb (marks_of some) once)

abbrev pub IsGiven : SheetView → Result SheetView SheetFault → Type 0
IsGiven found result = Ok found ≡ result

given : (found sheet : SheetView) → IsGiven found (Ok sheet) → found.marks ≡ sheet.marks
given found sheet is = let same : found ≡ sheet = cc is in ap (λ (c : SheetView). c.marks) same

-- the marks of a sheet that was read have such names, and none occurs twice
pub sheet_holds : (labels : Labels) (drawing : DiagramView) (sheet : SheetView) → sheet_of labels drawing ≡ Ok sheet → HasMarks sheet
unfolding sheet_of
sheet_holds labels drawing sheet is =
    let (marks, is_marks, rest) = result_then (read_marks drawing.lanes) _ sheet is in
    let (pins, is_pins, more) = result_then (read_pins drawing.lanes) _ sheet rest in
    let (links, is_links, last) = result_then (links_of labels marks drawing.edges) _ sheet more in
    let same : marks ≡ sheet.marks = given _ sheet last in
    subst AreMarks same (read_marks_hold drawing.lanes marks is_marks)

-- the same of a sheet that was read at a grade, or at no grade
pub sheet_by_holds : (grades : Option (List Grade)) (name : Option (List ℕ)) (drawing : DiagramView) (sheet : SheetView) → sheet_by grades name drawing ≡ Ok sheet → HasMarks sheet
unfolding sheet_at
sheet_by_holds None name drawing sheet is = sheet_holds plain drawing sheet is
sheet_by_holds (Some grades) name drawing sheet is =
    let (grade, named, rest) = result_then (grade_named grades name) (λ g. sheet_of (graded g) drawing) sheet is in sheet_holds (graded grade) drawing sheet rest

-- ---- sheets by their keys

abbrev pub Entry : Type 0
Entry = SheetKey × SheetView

-- a sheet has such marks, and it is whole
abbrev pub IsFormed : SheetView → Type 0
IsFormed sheet = HasMarks sheet × IsWhole sheet

abbrev pub HoldsMarks : Entry → Type 0
HoldsMarks entry = IsFormed entry.1

abbrev pub AreMarked : NamedSheets → Type 0
AreMarked sheets = All HoldsMarks sheets

entered : (b : Bool) (e : Entry) (es more : NamedSheets) (sheet : SheetView) → IsFormed sheet → AreMarked (e ∷ es) → AreMarked more
    → AreMarked (if b then (e.0, sheet) ∷ es else e ∷ more)
entered true e es more sheet holds all others = All-cons HoldsMarks (e.0, sheet) es holds (All-tail HoldsMarks e es all)
entered false e es more sheet holds all others = All-cons HoldsMarks e more (All-head HoldsMarks e es all) others

-- the sheets with one more sheet
pub with_sheet_holds : (sheets : NamedSheets) (key : SheetKey) (sheet : SheetView) → AreMarked sheets → IsFormed sheet → AreMarked (with_sheet sheets key sheet)
with_sheet_holds [] key sheet all holds = All-cons HoldsMarks (key, sheet) [] holds (All-nil HoldsMarks)
with_sheet_holds (e ∷ es) key sheet all holds =
    entered (same_key key e.0) e es (with_sheet es key sheet) sheet holds all (with_sheet_holds es key sheet (All-tail HoldsMarks e es all) holds)

found : (b : Bool) (e : Entry) (o : Option SheetView) → IsFormed e.1 → IfSome o IsFormed → IfSome (cond b (Some e.1) o) IsFormed
found true e o here others = here
found false e o here others = others

among_holds : (sheets : NamedSheets) (key : SheetKey) → AreMarked sheets → IfSome (sheet_among sheets key) IsFormed
among_holds [] key all = tt
among_holds (e ∷ es) key all = found (same_key key e.0) e (sheet_among es key) (All-head HoldsMarks e es all) (among_holds es key (All-tail HoldsMarks e es all))

-- the sheets of parts
pub sheets_hold : (sheets : NamedSheets) (parts : List Part) → AreMarked sheets → All HasMarks (sheets_on sheets parts) × All IsWhole (sheets_on sheets parts)
sheets_hold sheets parts all =
    let both : All IsFormed (sheets_on sheets parts) = all_filtered IsFormed (λ part. sheet_among sheets (key_of part)) (λ part. among_holds sheets (key_of part) all) parts in
    (All-weaker IsFormed HasMarks (λ sheet is. is.0) (sheets_on sheets parts) both, All-weaker IsFormed IsWhole (λ sheet is. is.1) (sheets_on sheets parts) both)
