-- Lines of a table that are put in pieces: cells after commas, and quoted texts.
use Rattle.std.proofs.Common.{◌≡◌, ◌<◌, ◌+◌, ℕ, List, [], ◌∷◌, ◌++◌, length, map, drop, get_or, Bor, refl, sym, ap, ◌∙◌, append_assoc, append-nil, add-one, drop-cons}
use Rattle.std.specs.List.{concat, flat_map, join_with_byte}
use Rattle.std.proofs.lemmas.Grind.{flat_map-append}
use Rattle.itv_base.proofs.Written.{pieces_at}
use Rattle.job_brief.specs.Step.{behind_comma, cells_text}
use Rattle.job_brief.specs.Table.{cells_end, doubled, in_quotes}

-- ---- cells

-- the first cell, and the others after commas
join_commas : (cell : List ℕ) (cells : List (List ℕ)) → join_with_byte 44 (cell ∷ cells) ≡ cell ++ flat_map behind_comma cells
join_commas cell [] = sym (append-nil cell)
join_commas cell (other ∷ cells) = ap (λ rest. cell ++ (44 ∷ rest)) (join_commas other cells)

-- the cells of two lists, and what stands after them
commas_both : (cells more : List (List ℕ)) (rest : List ℕ)
    → flat_map behind_comma cells ++ (flat_map behind_comma more ++ rest) ≡ flat_map behind_comma (cells ++ more) ++ rest
commas_both cells more rest =
    sym (append_assoc (flat_map behind_comma cells) (flat_map behind_comma more) rest) ∙ ap (λ l. l ++ rest) (sym (flat_map-append behind_comma cells more))

-- the first cell and the others, and the end of the line
line_of_cells : (cell : List ℕ) (cells more : List (List ℕ))
    → (cell ++ flat_map behind_comma cells) ++ (flat_map behind_comma more ++ cells_end) ≡ cells_text (cell ∷ (cells ++ more))
line_of_cells cell cells more =
    append_assoc cell (flat_map behind_comma cells) (flat_map behind_comma more ++ cells_end) ∙ ap (λ l. cell ++ l) (commas_both cells more cells_end)
    ∙ sym (append_assoc cell (flat_map behind_comma (cells ++ more)) cells_end) ∙ ap (λ l. l ++ cells_end) (sym (join_commas cell (cells ++ more)))

-- the cells of four lists after the first cell
pub cells_are : (cell : List ℕ) (asked found by last : List (List ℕ))
    → (cell ++ flat_map behind_comma asked) ++ (flat_map behind_comma found ++ (flat_map behind_comma by ++ (flat_map behind_comma last ++ cells_end)))
    ≡ cells_text (cell ∷ (asked ++ (found ++ (by ++ last))))
cells_are cell asked found by last =
    ap (λ l. (cell ++ flat_map behind_comma asked) ++ (flat_map behind_comma found ++ l)) (commas_both by last cells_end)
    ∙ ap (λ l. (cell ++ flat_map behind_comma asked) ++ l) (commas_both found (by ++ last) cells_end) ∙ line_of_cells cell asked (found ++ (by ++ last))

-- the number, the cells of the kind and of two names, and others
pub asked_are : (number kind from to : List ℕ) (ends : List (List ℕ))
    → (number ++ behind_comma kind) ++ (behind_comma from ++ (behind_comma to ++ flat_map behind_comma ends)) ≡ number ++ flat_map behind_comma (kind ∷ from ∷ to ∷ ends)
asked_are number kind from to ends = append_assoc number (behind_comma kind) (behind_comma from ++ (behind_comma to ++ flat_map behind_comma ends))

-- one cell and others, and two cells and others
pub two_cells : (cell : List ℕ) (cells : List (List ℕ)) → behind_comma cell ++ flat_map behind_comma cells ≡ flat_map behind_comma (cell ∷ cells)
two_cells cell cells = refl

pub three_cells : (first cell : List ℕ) (cells : List (List ℕ)) → behind_comma first ++ (behind_comma cell ++ flat_map behind_comma cells) ≡ flat_map behind_comma (first ∷ cell ∷ cells)
three_cells first cell cells = refl

-- two cells at the end of a list
pub last_two : (first cell last : List ℕ) → behind_comma first ++ (behind_comma cell ++ behind_comma last) ≡ flat_map behind_comma (first ∷ cell ∷ last ∷ [])
last_two first cell last = ap (λ l. behind_comma first ++ (behind_comma cell ++ l)) (sym (append-nil (behind_comma last)))

-- a cell and others, and the end of the line
pub cell_end : (cell : List ℕ) (cells : List (List ℕ)) → behind_comma cell ++ (flat_map behind_comma cells ++ cells_end) ≡ flat_map behind_comma (cell ∷ cells) ++ cells_end
cell_end cell cells = sym (append_assoc (behind_comma cell) (flat_map behind_comma cells) cells_end)

-- ---- quoted texts

-- a cell in double quotes
pub quotes_are : (text : List ℕ) → (44 ∷ 34 ∷ []) ++ (text ++ 34 ∷ []) ≡ behind_comma (in_quotes text)
quotes_are text = refl

-- the next byte of a text with each double quote twice
pub bytes_more : (text : List ℕ) (k d : ℕ) → k < length text → flat_map doubled (drop k text) ≡ doubled (get_or text k d) ++ flat_map doubled (drop (k + 1) text)
bytes_more text k d h = rw (add-one, drop-cons text k d h) refl

-- the next piece of a text with each double quote twice
pub doubled_more : (pieces : List (Bor (List ℕ))) (k : ℕ) (d : Bor (List ℕ)) → k < length pieces
    → flat_map doubled (concat (drop k (map (λ (p : Bor (List ℕ)). p.now) pieces)))
    ≡ flat_map doubled (get_or pieces k d).now ++ flat_map doubled (concat (drop (k + 1) (map (λ (p : Bor (List ℕ)). p.now) pieces)))
doubled_more pieces k d h =
    ap (flat_map doubled) (pieces_at pieces k d h) ∙ flat_map-append doubled (get_or pieces k d).now (concat (drop (k + 1) (map (λ (p : Bor (List ℕ)). p.now) pieces)))
