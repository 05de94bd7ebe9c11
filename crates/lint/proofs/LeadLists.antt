-- The marks that numbers stand for.
use Rattle.std.proofs.Common.{◌≡◌, ℕ, ◌+◌, ◌-◌, ◌<◌, ◌≤◌, cond, nat_lt, List, ◌∷◌, length, drop, Some, ap, sym, ◌∙◌}
use Rattle.std.specs.Prelude.{slice_get}
use Rattle.std.proofs.lemmas.Bool.{le-ltb, lt-ltb}
use Rattle.std.proofs.lemmas.List.{at_drop_all, at_drop_more}
use Rattle.std.proofs.lemmas.Option.{get_or_from_slice_get, slice_get_within}
use Rattle.sheet.specs.SheetContents.{SheetView}
use Rattle.lint.specs.Leads.{mark_from, mark_of, mark_on}

module _ (sheets : List SheetView) (part rest number : ℕ) (held : mark_from part (drop part sheets) rest ≡ mark_of sheets number) where
  -- no part is left
  pub mark_past : length sheets ≤ part → mark_on part rest ≡ mark_of sheets number
  mark_past all = sym (at_drop_all (λ ss. mark_from part ss rest) sheets part all) ∙ held

  module _ (count : ℕ) (sheet : SheetView) (read : slice_get sheets part ≡ Some sheet) (is : count ≡ length sheet.marks) where
    next : mark_from part (drop part sheets) rest ≡ cond (nat_lt rest count) (mark_on part rest) (mark_from (part + 1) (drop (part + 1) sheets) (rest - count))
    next =
        at_drop_more (λ ss. mark_from part ss rest) sheets part sheet (slice_get_within sheets part sheet read)
        ∙ ap (λ (s : SheetView). mark_from part (s ∷ drop (part + 1) sheets) rest) (get_or_from_slice_get sheets part sheet sheet read)
        ∙ ap (λ n. cond (nat_lt rest n) (mark_on part rest) (mark_from (part + 1) (drop (part + 1) sheets) (rest - n))) (sym is)

    -- the mark is on the sheet of this part
    pub mark_here : rest < count → mark_on part rest ≡ mark_of sheets number
    mark_here less =
        sym (next ∙ ap (λ b. cond b (mark_on part rest) (mark_from (part + 1) (drop (part + 1) sheets) (rest - count))) (lt-ltb rest count less)) ∙ held

    -- the mark is on the sheet of a later part
    pub mark_later : count ≤ rest → mark_from (part + 1) (drop (part + 1) sheets) (rest - count) ≡ mark_of sheets number
    mark_later more =
        sym (next ∙ ap (λ b. cond b (mark_on part rest) (mark_from (part + 1) (drop (part + 1) sheets) (rest - count))) (le-ltb rest count more)) ∙ held
