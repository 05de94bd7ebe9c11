-- The tally of rows, one row after another.
use Rattle.std.proofs.Common.{◌≡◌, ◌<◌, ◌+◌, ℕ, List, ◌∷◌, length, get_or, drop, map, Some, slice_get, refl, sym, ap, ◌∙◌}
use Rattle.std.proofs.lemmas.List.{drop_more}
use Rattle.itv_base.proofs.Lists.{drop-read}
use Rattle.requirements.specs.declared.bound.BothBounds.{BothBounds}
use Rattle.drawn_networks.specs.declared.row.Row.{Row}
use Rattle.right_report.specs.RowTally.{kinds_of, with_row, with_rows}
use Rattle.right_report.specs.declared.tally.ReportTally.{ReportTally}

-- If the tally of the first rows gives with the rows that are left the tally of all rows, so it does with the next row. `both_in` are the bounds that are
-- found of a row.
pub tally_more : {A : Type 0} (both_in : A → BothBounds) (tally next whole : ReportTally) (rows : List Row) (found : List A) (k : ℕ) (row : Row) (of_row d : A) (both : BothBounds)
    → slice_get rows k ≡ Some row → k < length found → of_row ≡ get_or found k d → both ≡ both_in of_row → next ≡ with_row tally row.kind both
    → with_rows tally (kinds_of (drop k rows)) (map both_in (drop k found)) ≡ whole → with_rows next (kinds_of (drop (k + 1) rows)) (map both_in (drop (k + 1) found)) ≡ whole
tally_more both_in tally next whole rows found k row of_row d both e h is is_both step before =
    ap (λ t. with_rows t (kinds_of (drop (k + 1) rows)) (map both_in (drop (k + 1) found))) (step ∙ ap (with_row tally row.kind) is_both) ∙ (sym more ∙ before)
  where
    found_more : drop k found ≡ of_row ∷ drop (k + 1) found
    found_more = drop_more found k d h ∙ ap (λ x. x ∷ drop (k + 1) found) (sym is)

    more : with_rows tally (kinds_of (drop k rows)) (map both_in (drop k found))
        ≡ with_rows (with_row tally row.kind (both_in of_row)) (kinds_of (drop (k + 1) rows)) (map both_in (drop (k + 1) found))
    more = rw (drop-read rows k row e, found_more) refl
