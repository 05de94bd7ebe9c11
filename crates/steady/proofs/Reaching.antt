-- How far rows look back.
use Rattle.std.proofs.Common.{◌≡◌, ℕ, ◌+◌, ◌<◌, ◌≤◌, List, [], ◌∷◌, ◌++◌, length, get_or, take, All, ap, sym, ◌∙◌, subst, arith}
use Rattle.std.specs.Prelude.{max}
use Rattle.std.proofs.lemmas.List.{take_more}
use Rattle.std.proofs.lemmas.List.Elements.{All-push, All-weaker}
use Rattle.std.proofs.lemmas.List.Sums.{fold_more}
use Rattle.itv_base.specs.declared.limits.TheConstants.{MAX_SHIFT}
use Rattle.sheet.specs.declared.row.SheetRow.{SheetRow}
use Rattle.steady.specs.Cycles.{greatest_shift}

-- the greatest shift of the first rows
pub record IsShiftSoFar (rows : List SheetRow) (count most : ℕ) : Type 0 where
  pub is : most ≡ greatest_shift (take count rows)
  pub few : most ≤ MAX_SHIFT
  pub within : All (λ (row : SheetRow). row.shift ≤ most) (take count rows)

pub shift_more : (rows : List SheetRow) (count most next : ℕ) (row : SheetRow) → count < length rows → row ≡ get_or rows count row → row.shift ≤ MAX_SHIFT → next ≡ max row.shift most
    → IsShiftSoFar rows count most → IsShiftSoFar rows (count + 1) next
shift_more rows count most next row within at few is h =
    let step : take (count + 1) rows ≡ take count rows ++ row ∷ [] = take_more rows count row within ∙ ap (λ r. take count rows ++ r ∷ []) (sym at) in
    let before : most ≤ MAX_SHIFT = h.few in
    let upper : most ≤ next = omega (arith, is) in
    let here : row.shift ≤ next = omega (arith, is) in
    record {
      is = is ∙ ap (λ m. max row.shift m) h.is ∙ ap (λ (r : SheetRow). max r.shift (greatest_shift (take count rows))) at ∙ sym (fold_more (λ (m : ℕ) (r : SheetRow). max r.shift m) 0 rows count row within);
      few = omega (arith, is, before, few);
      within = subst (All (λ (r : SheetRow). r.shift ≤ next)) (sym step)
          (All-push (λ (r : SheetRow). r.shift ≤ next) (take count rows) row (All-weaker (λ (r : SheetRow). r.shift ≤ most) (λ r. r.shift ≤ next) (λ r le. omega (arith, le, upper)) (take count rows) h.within) here);
    }
