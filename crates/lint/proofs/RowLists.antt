-- Whether a design has rows.
use Rattle.std.proofs.Common.{◌≡◌, ℕ, ◌+◌, ◌≤◌, true, false, List, [], ◌∷◌, length, map, take, Some, refl, ap, sym, ◌∙◌, length-append, arith}
use Rattle.std.specs.Prelude.{◌==◌, slice_get, sum_by}
use Rattle.std.proofs.lemmas.Bool.{eqb-false, eqb-true, ne_eqb}
use Rattle.std.proofs.lemmas.List.{length-map, take_all}
use Rattle.std.proofs.lemmas.List.Sums.{sum_by-cons, sum_by-take-le, sum_by_push}
use Rattle.sheet.specs.SheetContents.{SheetView}
use Rattle.itv_base.proofs.Lists.{take_get}
use Rattle.compose.specs.Design.{DesignView}
use Rattle.unroll.specs.Cycle.{part_rows, row_behind, rows_of}

-- how many rows sheets have
abbrev pub row_count : List SheetView → ℕ
row_count sheets = sum_by (λ (sheet : SheetView). length sheet.rows) sheets

length-part_rows : (first : ℕ) (sheets : List SheetView) → length (part_rows first sheets) ≡ row_count sheets
length-part_rows first [] = refl
length-part_rows first (sheet ∷ sheets) =
    omega (
      arith,
      length-append (map (row_behind first) sheet.rows) (part_rows (first + length sheet.marks) sheets),
      length-map sheet.rows (row_behind first),
      length-part_rows (first + length sheet.marks) sheets,
      sum_by-cons (λ (s : SheetView). length s.rows) sheet sheets,
    )

length-rows_of : (d : DesignView) → length (rows_of d) ≡ row_count d.sheets + length d.rows
length-rows_of d = length-append (part_rows 0 d.sheets) d.rows ∙ ap (λ n. n + length d.rows) (length-part_rows 0 d.sheets)

module _ (d : DesignView) (part : ℕ) (sheet : SheetView) (read : slice_get d.sheets part ≡ Some sheet) where
  row_count_more : row_count (take (part + 1) d.sheets) ≡ row_count (take part d.sheets) + length sheet.rows
  row_count_more = ap row_count (take_get d.sheets part sheet read) ∙ sum_by_push (λ (s : SheetView). length s.rows) (take part d.sheets) sheet

  -- one more sheet without rows
  pub none_more : row_count (take part d.sheets) ≡ 0 → (length sheet.rows == 0) ≡ true → row_count (take (part + 1) d.sheets) ≡ 0
  none_more before none = omega (arith, row_count_more, before, eqb-true (length sheet.rows) 0 none)

  -- a sheet with rows
  pub some_rows : (length sheet.rows == 0) ≡ false → false ≡ (length (rows_of d) == 0)
  some_rows some =
      sym (ne_eqb (length (rows_of d)) 0 (λ none. eqb-false (length sheet.rows) 0 some
      (omega (arith, none, length-rows_of d, row_count_more, sum_by-take-le (λ (s : SheetView). length s.rows) d.sheets (part + 1)))))

-- no sheet has rows
pub no_rows : (d : DesignView) (n : ℕ) → length d.sheets ≤ n → row_count (take n d.sheets) ≡ 0 → (length d.rows == 0) ≡ (length (rows_of d) == 0)
no_rows d n all none =
    let of_sheets : row_count d.sheets ≡ 0 = ap row_count (sym (take_all n d.sheets all)) ∙ none in
    let same : length d.rows ≡ length (rows_of d) = omega (arith, of_sheets, length-rows_of d) in
    ap (λ k. k == 0) same
