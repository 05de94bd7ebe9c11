-- Reading words one after another: what was read so far stands before what is read of the words that are left.
use Rattle.std.proofs.Common.{◌≡◌, ℕ, ◌+◌, ◌<◌, ◌≤◌, List, [], ◌∷◌, ◌++◌, length, get_or, drop, Bor, Option, Some, None, option_map, refl, sym, ap, ◌∙◌, append_assoc, add-one, drop-cons}
use Rattle.std.proofs.lemmas.List.{append-nil, drop_all}
use Rattle.line_words.specs.Words.{◌>>=◌, Word, many}
use Rattle.line_words.specs.Views.{texts}

abbrev pub in_front : {A : Type 0} → List A → Option (List A) → Option (List A)
in_front list rest = option_map (λ xs. list ++ xs) rest

-- the words from a place on: the first of them and the others
pub texts_more : (words : List (Bor (List ℕ))) (i : ℕ) (d : Bor (List ℕ)) → i < length words
    → texts (drop i words) ≡ (get_or words i d).now ∷ texts (drop (i + 1) words)
texts_more words i d h = rw (add-one, drop-cons words i d h) refl

pub texts_none : (words : List (Bor (List ℕ))) (i : ℕ) → length words ≤ i → texts (drop i words) ≡ []
texts_none words i h = ap texts (drop_all i words h)

front_step : {A : Type 0} (list : List A) (x : A) (o : Option (List A)) → in_front list (o >>= λ xs. Some (x ∷ xs)) ≡ in_front (list ++ x ∷ []) o
front_step list x None = refl
front_step list x (Some xs) = ap (λ ys. Some ys) (sym (append_assoc list (x ∷ []) xs))

module _ {A : Type 0} (read : Word → Option A) (words : List (Bor (List ℕ))) where
  -- one word more is read
  pub many_goes : (i : ℕ) (d : Bor (List ℕ)) (list : List A) (x : A) (total : Option (List A)) → i < length words → read ((get_or words i d).now) ≡ Some x
      → in_front list (many read (texts (drop i words))) ≡ total → in_front (list ++ x ∷ []) (many read (texts (drop (i + 1) words))) ≡ total
  many_goes i d list x total h reads so_far =
      sym (front_step list x (many read (texts (drop (i + 1) words)))) ∙ sym (ap (in_front list) (ap (many read) (texts_more words i d h) ∙ rw reads refl)) ∙ so_far

  -- a word is not read
  pub many_stops : (i : ℕ) (d : Bor (List ℕ)) (list : List A) (total : Option (List A)) → i < length words → read ((get_or words i d).now) ≡ None
      → in_front list (many read (texts (drop i words))) ≡ total → None ≡ total
  many_stops i d list total h fails so_far =
      let none : many read (texts (drop i words)) ≡ None = ap (many read) (texts_more words i d h) ∙ rw fails refl in
      sym (ap (in_front list) none) ∙ so_far

  -- all words were read
  pub many_done : (i : ℕ) (list : List A) (total : Option (List A)) → length words ≤ i
      → in_front list (many read (texts (drop i words))) ≡ total → Some list ≡ total
  many_done i list total h so_far =
      ap (λ ys. Some ys) (sym (append-nil list)) ∙ sym (ap (in_front list) (ap (many read) (texts_none words i h))) ∙ so_far
