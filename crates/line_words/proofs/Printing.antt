-- A line as a writer puts it: the first word, each other word after a space, and the line end.
use Rattle.std.proofs.Common.{◌≡◌, ℕ, ◌+◌, ◌<◌, List, [], ◌∷◌, ◌++◌, length, get_or, drop, map, Bor, Result, refl, sym, subst, ap, ◌∙◌, append_assoc, add-one, drop-cons}
use Rattle.std.specs.List.{flat_map}
use Rattle.std.proofs.lemmas.List.{drop-map, append-nil}
use Rattle.std.specs.Bool.{⊤}
use Rattle.itv_base.specs.Outside.{CutShort, Puts, SinkState, grown}
use Rattle.itv_base.proofs.Written.{cut_more, cut_then, puts_same, puts_then}
use Rattle.line_words.specs.Words.{Word}
use Rattle.line_words.specs.Lines.{ended, line_of, spaced}

-- the words of a line put one after another
pub join_spaced : (word : Word) (words : List Word) → line_of (word ∷ words) ≡ word ++ flat_map spaced words
join_spaced word [] = sym (append-nil word)
join_spaced word (other ∷ words) = ap (λ rest. word ++ (32 ∷ rest)) (join_spaced other words)

ended_is : (word : Word) (words : List Word) → word ++ (flat_map spaced words ++ 10 ∷ []) ≡ ended (line_of (word ∷ words))
ended_is word words = sym (ap (λ l. l ++ 10 ∷ []) (join_spaced word words) ∙ append_assoc word (flat_map spaced words) (10 ∷ []))

-- the first word is put, then the others, and last the line end or a front of it
pub line_puts : {E : Type 0} (old first_put others_put new : SinkState) (word : Word) (words : List Word) (r : Result ⊤ E) → first_put ≡ grown old word
    → others_put ≡ grown first_put (flat_map spaced words) → Puts others_put new (10 ∷ []) r → Puts old new (ended (line_of (word ∷ words))) r
line_puts old first_put others_put new word words r p q last =
    puts_same old new (word ++ (flat_map spaced words ++ 10 ∷ [])) (ended (line_of (word ∷ words))) r (ended_is word words)
    (puts_then old first_put new word (flat_map spaced words ++ 10 ∷ []) r p (puts_then first_put others_put new (flat_map spaced words) (10 ∷ []) r q last))

-- the first word is put, and then a front of the others
pub line_cut : (old first_put new : SinkState) (word : Word) (words : List Word) → first_put ≡ grown old word → CutShort first_put new (flat_map spaced words)
    → CutShort old new (ended (line_of (word ∷ words)))
line_cut old first_put new word words p cut =
    subst (CutShort old new) (ended_is word words) (cut_then old first_put new word (flat_map spaced words ++ 10 ∷ []) p (cut_more first_put new (flat_map spaced words) (10 ∷ []) cut))

-- a front of the first word is put
pub word_cut : (old new : SinkState) (word : Word) (words : List Word) → CutShort old new word → CutShort old new (ended (line_of (word ∷ words)))
word_cut old new word words cut = subst (CutShort old new) (ended_is word words) (cut_more old new word (flat_map spaced words ++ 10 ∷ []) cut)

-- the words from a place on: the first of them and the others
pub spaced_more : (words : List (Bor (List ℕ))) (i : ℕ) (d : Bor (List ℕ)) → i < length words
    → flat_map spaced (drop i (map (λ (w : Bor (List ℕ)). w.now) words)) ≡ spaced ((get_or words i d).now) ++ flat_map spaced (drop (i + 1) (map (λ (w : Bor (List ℕ)). w.now) words))
spaced_more words i d h = rw (drop-map, drop-map, add-one, drop-cons words i d h) refl

pub spaced_by : {A : Type 0} (f : A → Word) (xs : List A) (i : ℕ) (d : A) → i < length xs
    → flat_map spaced (map f (drop i xs)) ≡ spaced (f (get_or xs i d)) ++ flat_map spaced (map f (drop (i + 1) xs))
spaced_by f xs i d h = rw (add-one, drop-cons xs i d h) refl
