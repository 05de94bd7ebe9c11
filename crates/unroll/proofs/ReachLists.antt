-- Rows that look back less than so many cycles.
use Rattle.std.proofs.Common.{◌≡◌, ℕ, ◌+◌, ◌<◌, ◌≤◌, ◌↔◌, Bool, true, false, List, [], ◌∷◌, length, map, take, All, Some, IsTrue, refl, subst, sym}
use Rattle.std.specs.Prelude.{slice_get}
use Rattle.std.proofs.lemmas.List.{take_all}
use Rattle.std.proofs.lemmas.List.Elements.{All-append, All-cons, All-head, All-map, All-nil, All-push, All-tail}
use Rattle.itv_base.proofs.Lists.{All-front, take_get}
use Rattle.sheet.specs.declared.row.SheetRow.{SheetRow}
use Rattle.sheet.specs.SheetContents.{SheetView}
use Rattle.compose.proofs.WholeDesigns.{All-slice_get}
use Rattle.compose.specs.Design.{DesignView}
use Rattle.unroll.specs.Cycle.{part_rows, row_behind}
use Rattle.unroll.specs.Reach.{ReachesNoFurther}
use Rattle.unroll.proofs.BetweenLists.{All-back}

module _ (cycles : ℕ) where
  abbrev pub IsBelow : SheetRow → Type 0
  IsBelow row = row.shift < cycles

  -- the rows of a sheet
  abbrev pub AreBelow : SheetView → Type 0
  AreBelow sheet = All IsBelow sheet.rows

  rows_back : (first : ℕ) (rows : List SheetRow) → All IsBelow (map (row_behind first) rows) → All IsBelow rows
  rows_back first [] all = All-nil IsBelow
  rows_back first (row ∷ rows) all =
      All-cons IsBelow row rows (All-head IsBelow (row_behind first row) (map (row_behind first) rows) all)
      (rows_back first rows (All-tail IsBelow (row_behind first row) (map (row_behind first) rows) all))

  -- the rows of the sheets of parts
  pub parts_below : (first : ℕ) (sheets : List SheetView) → All AreBelow sheets → All IsBelow (part_rows first sheets)
  parts_below first [] all = All-nil IsBelow
  parts_below first (sheet ∷ sheets) all =
      All-append IsBelow (map (row_behind first) sheet.rows) (part_rows (first + length sheet.marks) sheets)
      (All-map IsBelow (row_behind first) sheet.rows (All-head AreBelow sheet sheets all))
      (parts_below (first + length sheet.marks) sheets (All-tail AreBelow sheet sheets all))

  pub below_parts : (first : ℕ) (sheets : List SheetView) → All IsBelow (part_rows first sheets) → All AreBelow sheets
  below_parts first [] all = All-nil AreBelow
  below_parts first (sheet ∷ sheets) all =
      All-cons AreBelow sheet sheets
      (rows_back first sheet.rows (All-front IsBelow (map (row_behind first) sheet.rows) (part_rows (first + length sheet.marks) sheets) all))
      (below_parts (first + length sheet.marks) sheets (All-back IsBelow (map (row_behind first) sheet.rows) (part_rows (first + length sheet.marks) sheets) all))

-- ---- the test of the sheets, part by part

module _ (cycles few : ℕ) (same : few ≡ cycles) (sheets : List SheetView) (part : ℕ) (sheet : SheetView) (rows : List SheetRow) (read : slice_get sheets part ≡ Some sheet) (is : rows ≡ sheet.rows) where
  -- one more sheet
  pub one_more_below : (IsTrue true ↔ All (IsBelow few) rows) → All (AreBelow cycles) (take part sheets) → All (AreBelow cycles) (take (part + 1) sheets)
  one_more_below test all =
      rw (take_get sheets part sheet read)
      (All-push (AreBelow cycles) (take part sheets) sheet all (subst (λ (list : List SheetRow). All (IsBelow cycles) list) is (subst (λ n. All (IsBelow n) rows) same (test.0 refl))))

  -- a sheet with a row that looks back too far
  pub one_beyond : (IsTrue false ↔ All (IsBelow few) rows) → (IsTrue false ↔ All (IsBelow cycles) (part_rows 0 sheets))
  one_beyond test = (
    λ h. absurd (cc h),
    λ all.
        let below : AreBelow cycles sheet = All-slice_get (AreBelow cycles) sheets part sheet (below_parts cycles 0 sheets all) read in
        test.1 (subst (λ n. All (IsBelow n) rows) (sym same) (subst (λ (list : List SheetRow). All (IsBelow cycles) list) (sym is) below)),
  )

-- all sheets
pub all_below : (cycles n : ℕ) (sheets : List SheetView) → length sheets ≤ n → All (AreBelow cycles) (take n sheets) → (IsTrue true ↔ All (IsBelow cycles) (part_rows 0 sheets))
all_below cycles n sheets whole all = (λ _. parts_below cycles 0 sheets (subst (λ (list : List SheetView). All (AreBelow cycles) list) (take_all n sheets whole) all), λ _. refl)

-- ---- the test of the sheets, and then of the wires

pub wires_below : (cycles few : ℕ) (d : DesignView) (rows : List SheetRow) (test : Bool) → few ≡ cycles → rows ≡ d.rows → (IsTrue true ↔ All (IsBelow cycles) (part_rows 0 d.sheets))
    → (IsTrue test ↔ All (IsBelow few) rows) → (IsTrue test ↔ ReachesNoFurther cycles d)
wires_below cycles few d rows test same is parts wires = (
  λ h.
      All-append (IsBelow cycles) (part_rows 0 d.sheets) d.rows (parts.0 refl)
      (subst (λ (list : List SheetRow). All (IsBelow cycles) list) is (subst (λ n. All (IsBelow n) rows) same (wires.0 h))),
  λ all.
      wires.1 (subst (λ n. All (IsBelow n) rows) (sym same) (subst (λ (list : List SheetRow). All (IsBelow cycles) list) (sym is) (All-back (IsBelow cycles) (part_rows 0 d.sheets) d.rows all))),
)

pub parts_beyond : (cycles : ℕ) (d : DesignView) (test : Bool) → test ≡ false → (IsTrue false ↔ All (IsBelow cycles) (part_rows 0 d.sheets)) → (IsTrue test ↔ ReachesNoFurther cycles d)
parts_beyond cycles d test is parts =
    subst (λ b. IsTrue b ↔ ReachesNoFurther cycles d) (sym is) (λ h. absurd (cc h), λ all. parts.1 (All-front (IsBelow cycles) (part_rows 0 d.sheets) d.rows all))
