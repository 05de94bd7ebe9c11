-- Pieces that are cut from bytes one after another: what is left of the bytes, and what was made of the pieces so far.
use Rattle.std.proofs.Common.{◌≡◌, ◌+◌, ◌≤◌, ◌<◌, ℕ, List, [], ◌∷◌, ◌++◌, All, IsUtf8, drop, take, length, get_or, sum, arith, refl, sym, ap, ◌∙◌, subst, append_assoc, append-nil, length-drop}
use Rattle.std.proofs.lemmas.List.{drop_more, drop_all}
use Rattle.std.proofs.lemmas.List.Sums.{sum_by-cons, sum_by-drop_more}
use Rattle.std.proofs.lemmas.List.Elements.{All-nil, All-cons, All-head, All-tail}
use Rattle.std.specs.FinMap as map
use Rattle.itv_base.specs.Outside.{Files}
use Rattle.itv_base.specs.Memory.{ShelfMemView}
use Rattle.web.specs.Given.{AreAll, cut, filed}

-- ---- what is left of the bytes

-- the sum of the sizes that are left, one step on
pub sum_left : (sizes : List ℕ) (i : ℕ) → i < length sizes → sum (drop i sizes) ≡ get_or sizes i 0 + sum (drop (i + 1) sizes)
sum_left sizes i lt = sum_by-drop_more (λ size. size) sizes i 0 lt

-- no size is left
pub sum_none : (sizes : List ℕ) (i : ℕ) → length sizes ≤ i → sum (drop i sizes) ≡ 0
sum_none sizes i all = ap (λ left. sum left) (drop_all i sizes all)

-- the sum of the sizes of all pieces, by the first
sum_first : (size : ℕ) (sizes left : List ℕ) → AreAll (size ∷ sizes) left → size + sum sizes ≡ length left
sum_first size sizes left whole = sym (sum_by-cons (λ s. s) size sizes) ∙ whole

-- the first piece is within the bytes
pub fits : (size : ℕ) (sizes left : List ℕ) → AreAll (size ∷ sizes) left → size ≤ length left
fits size sizes left whole = omega (arith, sum_first size sizes left whole)

-- the other pieces are all of the bytes after the first piece
pub whole_after : (size : ℕ) (sizes left : List ℕ) → AreAll (size ∷ sizes) left → AreAll sizes (drop size left)
whole_after size sizes left whole = omega (arith, sum_first size sizes left whole, length-drop size left)

-- the piece at a place is within the bytes that are left there
pub fits_at : (sizes left : List ℕ) (i : ℕ) → i < length sizes → AreAll (drop i sizes) left → get_or sizes i 0 ≤ length left
fits_at sizes left i lt whole =
    let P : List ℕ → Type 0 = λ s. AreAll s left in
    fits (get_or sizes i 0) (drop (i + 1) sizes) left (subst P (drop_more sizes i 0 lt) whole)

-- ---- whether all pieces are texts

-- All pieces are texts if and only if the pieces that are left are.
pub record TextsLeft (sizes bytes sizes_left left : List ℕ) : Type 0 where
  pub whole : AreAll sizes_left left
  pub all : All IsUtf8 (cut sizes_left left) → All IsUtf8 (cut sizes bytes)
  pub each : All IsUtf8 (cut sizes bytes) → All IsUtf8 (cut sizes_left left)

pub texts_begin : (sizes bytes : List ℕ) → AreAll sizes bytes → TextsLeft sizes bytes sizes bytes
texts_begin sizes bytes whole = record { whole = whole; all = λ texts. texts; each = λ texts. texts }

texts_after : (sizes bytes : List ℕ) (size : ℕ) (sizes_left left : List ℕ) → IsUtf8 (take size left)
    → TextsLeft sizes bytes (size ∷ sizes_left) left → TextsLeft sizes bytes sizes_left (drop size left)
texts_after sizes bytes size sizes_left left text h = record {
  whole = whole_after size sizes_left left h.whole;
  all = λ others. h.all (All-cons IsUtf8 (take size left) (cut sizes_left (drop size left)) text others);
  each = λ texts. All-tail IsUtf8 (take size left) (cut sizes_left (drop size left)) (h.each texts);
}

-- the piece at a place is a text
pub texts_next : (sizes bytes left piece more : List ℕ) (i : ℕ) → i < length sizes → piece ≡ take (get_or sizes i 0) left → more ≡ drop (get_or sizes i 0) left
    → IsUtf8 piece → TextsLeft sizes bytes (drop i sizes) left → TextsLeft sizes bytes (drop (i + 1) sizes) more
texts_next sizes bytes left piece more i lt is_piece is_more text h =
    let Text : List ℕ → Type 0 = λ b. IsUtf8 b in
    let At : List ℕ → Type 0 = λ s. TextsLeft sizes bytes s left in
    let After : List ℕ → Type 0 = λ b. TextsLeft sizes bytes (drop (i + 1) sizes) b in
    subst After (sym is_more) (texts_after sizes bytes (get_or sizes i 0) (drop (i + 1) sizes) left (subst Text is_piece text) (subst At (drop_more sizes i 0 lt) h))

-- the piece at a place is no text
pub texts_stop : (sizes bytes left piece : List ℕ) (i : ℕ) → i < length sizes → piece ≡ take (get_or sizes i 0) left
    → ¬ (IsUtf8 piece) → TextsLeft sizes bytes (drop i sizes) left → ¬ (All IsUtf8 (cut sizes bytes))
texts_stop sizes bytes left piece i lt is_piece is_none h texts =
    let Text : List ℕ → Type 0 = λ b. IsUtf8 b in
    let At : List ℕ → Type 0 = λ s. TextsLeft sizes bytes s left in
    let at = subst At (drop_more sizes i 0 lt) h in
    is_none (subst Text (sym is_piece) (All-head IsUtf8 (take (get_or sizes i 0) left) (cut (drop (i + 1) sizes) (drop (get_or sizes i 0) left)) (at.each texts)))

pub texts_end : (sizes bytes left : List ℕ) (i : ℕ) → length sizes ≤ i → TextsLeft sizes bytes (drop i sizes) left → All IsUtf8 (cut sizes bytes)
texts_end sizes bytes left i all h =
    let At : List ℕ → Type 0 = λ s. TextsLeft sizes bytes s left in
    (subst At (drop_all i sizes all) h).all (All-nil IsUtf8)

-- ---- copies of the pieces

-- The copies and then the pieces that are left are all pieces. Those that are left are texts.
pub record Copied (sizes bytes : List ℕ) (texts : List (List ℕ)) (sizes_left left : List ℕ) : Type 0 where
  pub whole : AreAll sizes_left left
  pub each : All IsUtf8 (cut sizes_left left)
  pub all : texts ++ cut sizes_left left ≡ cut sizes bytes

pub copied_begin : (sizes bytes : List ℕ) (texts : List (List ℕ)) → texts ≡ [] → AreAll sizes bytes → All IsUtf8 (cut sizes bytes) → Copied sizes bytes texts sizes bytes
copied_begin sizes bytes texts none whole each = record { whole = whole; each = each; all = ap (λ t. t ++ cut sizes bytes) none }

-- the piece at a place is a text
pub copied_text : (sizes bytes : List ℕ) (texts : List (List ℕ)) (left piece : List ℕ) (i : ℕ) → i < length sizes → piece ≡ take (get_or sizes i 0) left
    → Copied sizes bytes texts (drop i sizes) left → IsUtf8 piece
copied_text sizes bytes texts left piece i lt is_piece h =
    let Text : List ℕ → Type 0 = λ b. IsUtf8 b in
    let At : List ℕ → Type 0 = λ s. Copied sizes bytes texts s left in
    let at = subst At (drop_more sizes i 0 lt) h in
    subst Text (sym is_piece) (All-head IsUtf8 (take (get_or sizes i 0) left) (cut (drop (i + 1) sizes) (drop (get_or sizes i 0) left)) at.each)

copied_after : (sizes bytes : List ℕ) (texts : List (List ℕ)) (size : ℕ) (sizes_left left : List ℕ)
    → Copied sizes bytes texts (size ∷ sizes_left) left → Copied sizes bytes (texts ++ take size left ∷ []) sizes_left (drop size left)
copied_after sizes bytes texts size sizes_left left h = record {
  whole = whole_after size sizes_left left h.whole;
  each = All-tail IsUtf8 (take size left) (cut sizes_left (drop size left)) h.each;
  all = append_assoc texts (take size left ∷ []) (cut sizes_left (drop size left)) ∙ h.all;
}

pub copied_next : (sizes bytes : List ℕ) (texts texts' : List (List ℕ)) (left piece more : List ℕ) (i : ℕ) → i < length sizes
    → piece ≡ take (get_or sizes i 0) left → more ≡ drop (get_or sizes i 0) left → texts' ≡ texts ++ piece ∷ []
    → Copied sizes bytes texts (drop i sizes) left → Copied sizes bytes texts' (drop (i + 1) sizes) more
copied_next sizes bytes texts texts' left piece more i lt is_piece is_more grew h =
    let At : List ℕ → Type 0 = λ s. Copied sizes bytes texts s left in
    let After : List ℕ → Type 0 = λ b. Copied sizes bytes texts' (drop (i + 1) sizes) b in
    let Grown : List (List ℕ) → Type 0 = λ t. Copied sizes bytes t (drop (i + 1) sizes) (drop (get_or sizes i 0) left) in
    subst After (sym is_more) (subst Grown (sym (grew ∙ ap (λ p. texts ++ p ∷ []) is_piece)) (copied_after sizes bytes texts (get_or sizes i 0) (drop (i + 1) sizes) left (subst At (drop_more sizes i 0 lt) h)))

pub copied_end : (sizes bytes : List ℕ) (texts : List (List ℕ)) (left : List ℕ) (i : ℕ) → length sizes ≤ i → Copied sizes bytes texts (drop i sizes) left → texts ≡ cut sizes bytes
copied_end sizes bytes texts left i all h =
    let At : List ℕ → Type 0 = λ s. Copied sizes bytes texts s left in
    sym (append-nil texts) ∙ (subst At (drop_all i sizes all) h).all

-- ---- files

-- a shelf with some files that no call has touched
abbrev pub shelf_of : Files → ShelfMemView
shelf_of files = record { files = files; failing = []; calls = 0; faults = 0; last = [] }

-- The files of the shelf, and then the contents that are left under the names that are left, are all files. The names that are left are texts.
pub record Filing (files : Files) (shelf : ShelfMemView) (name_sizes names file_sizes contents : List ℕ) : Type 0 where
  pub names_whole : AreAll name_sizes names
  pub each : All IsUtf8 (cut name_sizes names)
  pub contents_whole : AreAll file_sizes contents
  pub untouched : shelf ≡ shelf_of shelf.files
  pub all : filed shelf.files (cut name_sizes names) (cut file_sizes contents) ≡ files

pub filing_begin : (shelf : ShelfMemView) (name_sizes names file_sizes contents : List ℕ) → shelf ≡ shelf_of map.empty
    → AreAll name_sizes names → All IsUtf8 (cut name_sizes names) → AreAll file_sizes contents
    → Filing (filed map.empty (cut name_sizes names) (cut file_sizes contents)) shelf name_sizes names file_sizes contents
filing_begin shelf name_sizes names file_sizes contents fresh names_whole each contents_whole =
    let P : ShelfMemView → Type 0 = λ s. Filing (filed map.empty (cut name_sizes names) (cut file_sizes contents)) s name_sizes names file_sizes contents in
    subst P (sym fresh) (record { names_whole = names_whole; each = each; contents_whole = contents_whole; untouched = refl; all = refl })

filing_after : (files : Files) (shelf : ShelfMemView) (name_size : ℕ) (name_sizes names : List ℕ) (file_size : ℕ) (file_sizes contents : List ℕ)
    → Filing files shelf (name_size ∷ name_sizes) names (file_size ∷ file_sizes) contents
    → Filing files (record shelf { files = map.insert shelf.files (take name_size names) (take file_size contents) }) name_sizes (drop name_size names) file_sizes (drop file_size contents)
filing_after files shelf name_size name_sizes names file_size file_sizes contents h = record {
  names_whole = whole_after name_size name_sizes names h.names_whole;
  each = All-tail IsUtf8 (take name_size names) (cut name_sizes (drop name_size names)) h.each;
  contents_whole = whole_after file_size file_sizes contents h.contents_whole;
  untouched = ap (λ (s : ShelfMemView). record s { files = map.insert shelf.files (take name_size names) (take file_size contents) }) h.untouched;
  all = h.all;
}

-- one step on at a place
at_place : (files : Files) (shelf : ShelfMemView) (name_sizes names file_sizes contents : List ℕ) (k : ℕ) → k < length name_sizes → k < length file_sizes
    → Filing files shelf (drop k name_sizes) names (drop k file_sizes) contents
    → Filing files shelf (get_or name_sizes k 0 ∷ drop (k + 1) name_sizes) names (get_or file_sizes k 0 ∷ drop (k + 1) file_sizes) contents
at_place files shelf name_sizes names file_sizes contents k lt lt' h =
    let Names : List ℕ → Type 0 = λ s. Filing files shelf s names (drop k file_sizes) contents in
    let Contents : List ℕ → Type 0 = λ s. Filing files shelf (get_or name_sizes k 0 ∷ drop (k + 1) name_sizes) names s contents in
    subst Contents (drop_more file_sizes k 0 lt') (subst Names (drop_more name_sizes k 0 lt) h)

-- the name at a place is a text
pub filing_text : (files : Files) (shelf : ShelfMemView) (name_sizes names file_sizes contents name : List ℕ) (k : ℕ) → k < length name_sizes → k < length file_sizes
    → name ≡ take (get_or name_sizes k 0) names → Filing files shelf (drop k name_sizes) names (drop k file_sizes) contents → IsUtf8 name
filing_text files shelf name_sizes names file_sizes contents name k lt lt' is_name h =
    let Text : List ℕ → Type 0 = λ b. IsUtf8 b in
    subst Text (sym is_name) (All-head IsUtf8 (take (get_or name_sizes k 0) names) (cut (drop (k + 1) name_sizes) (drop (get_or name_sizes k 0) names)) (at_place files shelf name_sizes names file_sizes contents k lt lt' h).each)

pub filing_next : (files : Files) (shelf shelf' : ShelfMemView) (name_sizes names file_sizes contents name content names' contents' : List ℕ) (k : ℕ)
    → k < length name_sizes → k < length file_sizes
    → name ≡ take (get_or name_sizes k 0) names → names' ≡ drop (get_or name_sizes k 0) names
    → content ≡ take (get_or file_sizes k 0) contents → contents' ≡ drop (get_or file_sizes k 0) contents
    → shelf' ≡ record shelf { files = map.insert shelf.files name content }
    → Filing files shelf (drop k name_sizes) names (drop k file_sizes) contents
    → Filing files shelf' (drop (k + 1) name_sizes) names' (drop (k + 1) file_sizes) contents'
filing_next files shelf shelf' name_sizes names file_sizes contents name content names' contents' k lt lt' is_name is_names is_content is_contents grew h =
    let after = filing_after files shelf (get_or name_sizes k 0) (drop (k + 1) name_sizes) names (get_or file_sizes k 0) (drop (k + 1) file_sizes) contents
    (at_place files shelf name_sizes names file_sizes contents k lt lt' h) in
    let same : shelf' ≡ record shelf { files = map.insert shelf.files (take (get_or name_sizes k 0) names) (take (get_or file_sizes k 0) contents) } =
    grew ∙ ap (λ n. record shelf { files = map.insert shelf.files n content }) is_name ∙ ap (λ c. record shelf { files = map.insert shelf.files (take (get_or name_sizes k 0) names) c }) is_content in
    let Shelf : ShelfMemView → Type 0 = λ s. Filing files s (drop (k + 1) name_sizes) (drop (get_or name_sizes k 0) names) (drop (k + 1) file_sizes) (drop (get_or file_sizes k 0) contents) in
    let Names : List ℕ → Type 0 = λ n. Filing files shelf' (drop (k + 1) name_sizes) n (drop (k + 1) file_sizes) (drop (get_or file_sizes k 0) contents) in
    let Contents : List ℕ → Type 0 = λ c. Filing files shelf' (drop (k + 1) name_sizes) names' (drop (k + 1) file_sizes) c in
    subst Contents (sym is_contents) (subst Names (sym is_names) (subst Shelf (sym same) after))

pub filing_end : (files : Files) (shelf : ShelfMemView) (name_sizes names file_sizes contents : List ℕ) (k : ℕ) → length name_sizes ≤ k → length file_sizes ≤ k
    → Filing files shelf (drop k name_sizes) names (drop k file_sizes) contents → shelf ≡ shelf_of files
filing_end files shelf name_sizes names file_sizes contents k no_name no_content h =
    let Names : List ℕ → Type 0 = λ s. Filing files shelf s names (drop k file_sizes) contents in
    let at = subst Names (drop_all k name_sizes no_name) h in
    at.untouched ∙ ap (λ f. shelf_of f) at.all
