-- Lists of lines, piece by piece.
use Rattle.std.proofs.Common.{◌≡◌, ℕ, zero, suc, ◌+◌, ◌<◌, ◌≤◌, Bool, true, false, List, [], ◌∷◌, ◌++◌, length, get_or, take, drop, refl, sym, ap, ◌∙◌, append_assoc, append-nil, add-one, drop-cons, arith}
use Rattle.std.specs.Prelude.{map}
use Rattle.std.specs.List.{flat_map}
use Rattle.std.proofs.lemmas.List.{at_drop_more, drop_all, flat_map_more, map-append, take_more}
use Rattle.drawn_networks.specs.Drawn.{Drawn}
use Rattle.drawn_networks.specs.declared.row.Row.{Row}
use Rattle.lint.specs.declared.warning.DrawnPlace.{DrawnPlace}
use Rattle.job_lint.specs.declared.line.Line.{Line}
use Rattle.job_lint.specs.declared.line.Line.TheVariants.{Never}
use Rattle.job_lint.specs.declared.row_seen.RowSeen.{RowSeen}
use Rattle.job_lint.specs.Lines.{row_line, row_lines}

-- nothing is added
pub none_more : (items : List Line) → items ≡ items ++ []
none_more items = sym (append-nil items)

-- what one element more gives is added
pub pieces_more : {X A : Type 0} (f : X → List A) (xs : List X) (k : ℕ) (x : X) (items next : List A) → k < length xs → x ≡ get_or xs k x → items ≡ flat_map f (take k xs)
    → next ≡ items ++ f x → next ≡ flat_map f (take (k + 1) xs)
pieces_more f xs k x items next within at before pushed =
    pushed ∙ (ap (λ ys. ys ++ f x) before ∙ (flat_map_more f [] (take k xs) x
    ∙ ap (flat_map f) (sym (take_more xs k x within ∙ ap (λ y. take k xs ++ y ∷ []) (sym at)))))

pub pieces_at : {X A : Type 0} (f : X → List A) (xs : List X) (k : ℕ) (d : X) (items next : List A) → k < length xs → items ≡ flat_map f (take k xs)
    → next ≡ items ++ f (get_or xs k d) → next ≡ flat_map f (take (k + 1) xs)
pieces_at f xs k d items next within before pushed =
    pushed ∙ (ap (λ ys. ys ++ f (get_or xs k d)) before ∙ (flat_map_more f [] (take k xs) (get_or xs k d) ∙ ap (flat_map f) (sym (take_more xs k d within))))

-- one line more is copied
pub line_at : (lines : List Line) (k : ℕ) (d : Line) (first items next : List Line) → k < length lines → items ≡ first ++ take k lines
    → next ≡ items ++ get_or lines k d ∷ [] → next ≡ first ++ take (k + 1) lines
line_at lines k d first items next within before pushed =
    pushed ∙ (ap (λ ys. ys ++ get_or lines k d ∷ []) before ∙ (append_assoc first (take k lines) (get_or lines k d ∷ []) ∙ ap (λ ys. first ++ ys) (sym (take_more lines k d within))))

-- the line of one place more
pub place_at : (places : List DrawnPlace) (k : ℕ) (d : DrawnPlace) (first items next : List Line) → k < length places → items ≡ first ++ map Never (take k places)
    → next ≡ items ++ Never (get_or places k d) ∷ [] → next ≡ first ++ map Never (take (k + 1) places)
place_at places k d first items next within before pushed =
    let more : map Never (take (k + 1) places) ≡ map Never (take k places) ++ Never (get_or places k d) ∷ [] =
    ap (map Never) (take_more places k d within) ∙ map-append Never (take k places) (get_or places k d ∷ []) in
    pushed ∙ (ap (λ ys. ys ++ Never (get_or places k d) ∷ []) before ∙ (append_assoc first (map Never (take k places)) (Never (get_or places k d) ∷ []) ∙ ap (λ ys. first ++ ys) (sym more)))

-- ---- rows

-- the lines of the rows from a number on
abbrev pub rows_left : Drawn → ℕ → List Row → List RowSeen → List Line
rows_left network k rows found = row_lines network k (drop k rows) (drop k found)

-- the lines so far, and the lines of the rows that are left
abbrev pub AreLinesSoFar : Drawn → ℕ → List Row → List RowSeen → List Line → List Line → Type 0
AreLinesSoFar network k rows found first items = items ++ rows_left network k rows found ≡ first ++ row_lines network 0 rows found

rows_step : (network : Drawn) (k : ℕ) (rows : List Row) (found : List RowSeen) (row : Row) (seen : RowSeen) → k < length rows → k < length found → row ≡ get_or rows k row
    → seen ≡ get_or found k seen → rows_left network k rows found ≡ row_line network k row seen ++ rows_left network (k + 1) rows found
rows_step network k rows found row seen within among at there =
    let first : drop k rows ≡ row ∷ drop (k + 1) rows = at_drop_more (λ (rs : List Row). rs) rows k row within ∙ ap (λ (r : Row). r ∷ drop (k + 1) rows) (sym at) in
    let second : drop k found ≡ seen ∷ drop (k + 1) found =
    at_drop_more (λ (fs : List RowSeen). fs) found k seen among ∙ ap (λ (f : RowSeen). f ∷ drop (k + 1) found) (sym there) in
    ap (λ rs. row_lines network k rs (drop k found)) first ∙ ap (λ fs. row_lines network k (row ∷ drop (k + 1) rows) fs) second

pub lines_more : (network : Drawn) (k : ℕ) (rows : List Row) (found : List RowSeen) (row : Row) (seen : RowSeen) (first items next : List Line) → k < length rows
    → k < length found → row ≡ get_or rows k row → seen ≡ get_or found k seen → AreLinesSoFar network k rows found first items
    → next ≡ items ++ row_line network k row seen → AreLinesSoFar network (k + 1) rows found first next
lines_more network k rows found row seen first items next within among at there so_far pushed =
    ap (λ ys. ys ++ rows_left network (k + 1) rows found) pushed ∙ (append_assoc items (row_line network k row seen) (rows_left network (k + 1) rows found)
    ∙ (ap (λ ys. items ++ ys) (sym (rows_step network k rows found row seen within among at there)) ∙ so_far))

no_rows : (network : Drawn) (number : ℕ) (rows : List Row) → row_lines network number rows [] ≡ []
no_rows network number [] = refl
no_rows network number (row ∷ rows) = refl

-- no row is left, or nothing is found of those that are left
pub lines_done : (network : Drawn) (k : ℕ) (rows : List Row) (found : List RowSeen) (first items : List Line) → length rows ≤ k → AreLinesSoFar network k rows found first items
    → items ≡ first ++ row_lines network 0 rows found
lines_done network k rows found first items all so_far =
    sym (append-nil items) ∙ (ap (λ ys. items ++ ys) (sym (ap (λ rs. row_lines network k rs (drop k found)) (drop_all k rows all))) ∙ so_far)

pub lines_cut : (network : Drawn) (k : ℕ) (rows : List Row) (found : List RowSeen) (first items : List Line) → length found ≤ k → AreLinesSoFar network k rows found first items
    → items ≡ first ++ row_lines network 0 rows found
lines_cut network k rows found first items all so_far =
    sym (append-nil items)
    ∙ (ap (λ ys. items ++ ys) (sym (ap (λ fs. row_lines network k (drop k rows) fs) (drop_all k found all) ∙ no_rows network k (drop k rows))) ∙ so_far)
