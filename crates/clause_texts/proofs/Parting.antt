-- The words before a word and the words after it, as parts of a slice.
use Rattle.std.proofs.Common.{◌≡◌, ℕ, suc, ◌+◌, ◌-◌, ◌<◌, ◌≤◌, Bool, true, false, cond, if◌then◌else◌, not, List, [], ◌∷◌, take, drop, length, Bor, Option, Some, None, option_map, refl, sym, ap, subst, ◌∙◌, arith, length-drop}
use Rattle.std.specs.List.{position_or_len}
use Rattle.std.proofs.lemmas.List.{take_all}
use Rattle.line_words.specs.Views.{texts}
use Rattle.line_words.specs.Words.{Word, is_word}
use Rattle.clause_texts.specs.Step.Reading.{parted}

abbrev place : Word → List (Bor (List ℕ)) → ℕ
place key words = position_or_len (λ word. is_word word.now key) words

abbrev Parts : Type 0
Parts = Option (List Word × List Word)

abbrev parts : List Word → List Word → Parts
parts front behind = Some (front, behind)

-- the parts of words, by whether the first of them is the word that is sought
abbrev with_word : Bool → Word → List Word → Parts → Parts
with_word is_key word words rest = if is_key then Some ([], words) else option_map (λ (p : List Word × List Word). (word ∷ p.0, p.1)) rest

-- no word is this one
pub parted_none : (key : Word) (words : List (Bor (List ℕ))) → place key words ≡ length words → parted key (texts words) ≡ None
parted_none key [] e = refl
parted_none key (word ∷ words) e = by_test (is_word word.now key) e (parted_none key words)
  where
    by_test : (t : Bool) → cond (not t) (1 + place key words) 0 ≡ suc (length words) → (place key words ≡ length words → parted key (texts words) ≡ None)
        → with_word t word.now (texts words) (parted key (texts words)) ≡ None
    by_test true e rest = absurd (cc e)
    by_test false e rest = rw (rest (omega (arith, e))) refl

-- a word is this one
parted_at : (key : Word) (words : List (Bor (List ℕ))) → place key words < length words
    → parted key (texts words) ≡ parts (texts (take (place key words) words)) (texts (drop (place key words + 1) words))
parted_at key [] h = absurd (omega arith)
parted_at key (word ∷ words) h = by_test (is_word word.now key) h (parted_at key words)
  where
    by_test : (t : Bool) → cond (not t) (1 + place key words) 0 < suc (length words)
        → (place key words < length words → parted key (texts words) ≡ parts (texts (take (place key words) words)) (texts (drop (place key words + 1) words)))
        → with_word t word.now (texts words) (parted key (texts words))
        ≡ parts (texts (take (cond (not t) (1 + place key words) 0) (word ∷ words))) (texts (drop (cond (not t) (1 + place key words) 0 + 1) (word ∷ words)))
    by_test true h rest = refl
    by_test false h rest =
        let first : 1 + place key words ≡ suc (place key words) = omega arith in
        let more : 1 + place key words + 1 ≡ suc (place key words + 1) = omega arith in
        let within : place key words < length words = omega (arith, h) in
        rw (rest within, more, first) refl

-- the words from a place on, as a range of the slice
range_is : (words : List (Bor (List ℕ))) (i : ℕ) → texts (take (length words - i) (drop i words)) ≡ texts (drop i words)
range_is words i = let count : length (drop i words) ≤ length words - i = omega (arith, length-drop i words) in ap texts (take_all (length words - i) (drop i words) count)

-- the ranges before and after the word
pub parted_as : (key : Word) (words : List (Bor (List ℕ))) (i : ℕ) → i ≡ place key words → i < length words
    → parts (texts (take i words)) (texts (take (length words - (i + 1)) (drop (i + 1) words))) ≡ parted key (texts words)
parted_as key words i is within =
    let here : place key words < length words = subst (λ n. n < length words) is within in
    let whole : parts (texts (take i words)) (texts (drop (i + 1) words)) ≡ parted key (texts words) =
    subst (λ n. parts (texts (take n words)) (texts (drop (n + 1) words)) ≡ parted key (texts words)) (sym is) (sym (parted_at key words here)) in
    ap (parts (texts (take i words))) (range_is words (i + 1)) ∙ whole
