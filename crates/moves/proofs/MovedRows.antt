-- The rows with ranges moved, row by row.
use Rattle.std.proofs.Common.{◌≡◌, ◌<◌, ◌≤◌, ◌+◌, ℕ, Bool, true, false, IsTrue, List, [], ◌∷◌, ◌++◌, length, map, take, get_or, All, Some, option_map, slice_get, refl, sym, ap, subst, ◌∙◌, arith, below_more}
use Rattle.std.specs.Prelude.{if◌then◌else◌}
use Rattle.std.proofs.lemmas.List.{map_push, take_all}
use Rattle.std.proofs.lemmas.List.Elements.{All-map}
use Rattle.std.proofs.lemmas.Option.{same_Some, slice_get-get_or, slice_get-map}
use Rattle.itv_base.specs.Range.{Ends}
use Rattle.itv_base.proofs.Lists.{take_get}
use Rattle.event_graph.proofs.EdgesMet.{All-found}
use Rattle.event_graph.specs.Network.{Net}
use Rattle.drawn_networks.specs.Drawn.{Drawn, IsRowOf, name_of}
use Rattle.drawn_networks.specs.declared.row.Row.{Row}
use Rattle.drawn_numbers.specs.declared.drawn_number.DrawnNumber.{DrawnNumber}
use Rattle.moves.specs.Moving.{any_draws, kind_moved, row_moved}
use Rattle.moves.specs.Passing.{HasDrawableRows, IsKindRange}

-- ---- the rows

pub rows_more : (F : Row → Row) (rows given : List Row) (k : ℕ) (row moved : Row) (old new : List Row) → given ≡ rows → slice_get given k ≡ Some row → moved ≡ F row
    → old ≡ map F (take k rows) → new ≡ old ++ moved ∷ [] → new ≡ map F (take (k + 1) rows)
rows_more F rows given k row moved old new same at is before pushed =
    let own : slice_get rows k ≡ Some row = subst (λ (xs : List Row). slice_get xs k ≡ Some row) same at in
    pushed ∙ (ap (λ (xs : List Row). xs ++ moved ∷ []) before ∙ (ap (λ (x : Row). map F (take k rows) ++ x ∷ []) is
    ∙ (sym (map_push F (take k rows) row) ∙ ap (λ (xs : List Row). map F xs) (sym (take_get rows k row own)))))

pub rows_whole : (F : Row → Row) (rows : List Row) (k : ℕ) (items : List Row) → length rows ≤ k → items ≡ map F (take k rows) → items ≡ map F rows
rows_whole F rows k items all is = is ∙ ap (λ (xs : List Row). map F xs) (take_all k rows all)

-- ---- a row

module _ (move : Ends → Ends) (drawn : Drawn) (numbers : List DrawnNumber) where
  abbrev row_if : Bool → Row → Row
  row_if is_drawn row = if is_drawn then record row { kind = kind_moved move row.kind } else row

  row_kept : (net : Net) (is_drawn : Bool) (row : Row) → IsRowOf net row → IsRowOf net (row_if is_drawn row)
  row_kept net true row is = is
  row_kept net false row is = is

  pub rows_kept : (net : Net) (rows : List Row) → All (IsRowOf net) rows → All (IsRowOf net) (map (row_moved move drawn numbers) rows)
  rows_kept net rows all =
      All-map (IsRowOf net) (row_moved move drawn numbers) rows
      (λ k d within. row_kept net (any_draws numbers (name_of drawn (get_or rows k d).from).part (get_or rows k d).origin) (get_or rows k d) (all k d within))

  -- ---- ranges

  -- if the row is drawn, its range can be drawn
  abbrev CanDrawRow : Row → Type 0
  CanDrawRow row = IsTrue (any_draws numbers (name_of drawn row.from).part row.origin) → IsKindRange row.kind

  -- if the row is drawn, its moved range can be drawn
  abbrev pub CanMoveRow : Row → Type 0
  CanMoveRow row = IsTrue (any_draws numbers (name_of drawn row.from).part row.origin) → IsKindRange (kind_moved move row.kind)

  to_drawn : (is_drawn : Bool) (row : Row) → is_drawn ≡ any_draws numbers (name_of drawn row.from).part row.origin → CanMoveRow row → CanDrawRow (row_if is_drawn row)
  to_drawn true row is can = can
  to_drawn false row is can = λ h. absurd (cc (is, h))

  to_move : (is_drawn : Bool) (row : Row) → is_drawn ≡ any_draws numbers (name_of drawn row.from).part row.origin → CanDrawRow (row_if is_drawn row) → CanMoveRow row
  to_move true row is can = can
  to_move false row is can = λ h. absurd (cc (is, h))

  pub row_can_more : (given : List Row) (k : ℕ) (row : Row) → given ≡ drawn.rows → slice_get given k ≡ Some row → CanMoveRow row
      → ((j : ℕ) → j < k → (r : Row) → slice_get drawn.rows j ≡ Some r → CanMoveRow r) → (j : ℕ) → j < k + 1 → (r : Row) → slice_get drawn.rows j ≡ Some r → CanMoveRow r
  row_can_more given k row same at can before =
      let own : slice_get drawn.rows k ≡ Some row = subst (λ (xs : List Row). slice_get xs k ≡ Some row) same at in
      below_more (λ j. (r : Row) → slice_get drawn.rows j ≡ Some r → CanMoveRow r) k before
      (λ r at_r. subst CanMoveRow (same_Some row r (sym own ∙ at_r)) can)

  pub row_ranges_whole : (k : ℕ) → length drawn.rows ≤ k → ((j : ℕ) → j < k → (r : Row) → slice_get drawn.rows j ≡ Some r → CanMoveRow r)
      → HasDrawableRows (record drawn { rows = map (row_moved move drawn numbers) drawn.rows }) numbers
  row_ranges_whole k all can =
      All-map CanDrawRow (row_moved move drawn numbers) drawn.rows
      (λ j d within.
      let row : Row = get_or drawn.rows j d in
      to_drawn (any_draws numbers (name_of drawn row.from).part row.origin) row refl (can j (omega (arith, within, all)) row (slice_get-get_or drawn.rows j d within)))

  pub row_range_at : (given : List Row) (k : ℕ) (row : Row) → given ≡ drawn.rows → slice_get given k ≡ Some row
      → HasDrawableRows (record drawn { rows = map (row_moved move drawn numbers) drawn.rows }) numbers → CanMoveRow row
  row_range_at given k row same at all =
      let own : slice_get drawn.rows k ≡ Some row = subst (λ (xs : List Row). slice_get xs k ≡ Some row) same at in
      to_move (any_draws numbers (name_of drawn row.from).part row.origin) row refl
      (All-found CanDrawRow (map (row_moved move drawn numbers) drawn.rows) k (row_moved move drawn numbers row) (at_map drawn.rows k row own) all)
    where
      at_map : (rows : List Row) (i : ℕ) (r : Row) → slice_get rows i ≡ Some r → slice_get (map (row_moved move drawn numbers) rows) i ≡ Some (row_moved move drawn numbers r)
      at_map rows i r at_r = slice_get-map (row_moved move drawn numbers) rows i ∙ ap (option_map (row_moved move drawn numbers)) at_r
