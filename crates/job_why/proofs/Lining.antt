-- Lines that are put in pieces: more words after the words of a line, and its end.
use Rattle.std.proofs.Common.{◌≡◌, ℕ, List, [], ◌∷◌, ◌++◌, sym, ap, ◌∙◌, append_assoc, append-nil}
use Rattle.std.specs.List.{flat_map}
use Rattle.std.specs.Prelude.{codes}
use Rattle.std.proofs.lemmas.Grind.{flat_map-append}
use Rattle.line_words.specs.Words.{Word}
use Rattle.line_words.specs.Lines.{ended, line_of, spaced}
use Rattle.line_words.proofs.Printing.{join_spaced}

-- the words of two lists, each after a space
pub spaced_both : (words more : List Word) (rest : List ℕ) → flat_map spaced words ++ (flat_map spaced more ++ rest) ≡ flat_map spaced (words ++ more) ++ rest
spaced_both words more rest =
    sym (append_assoc (flat_map spaced words) (flat_map spaced more) rest) ∙ ap (λ l. l ++ rest) (sym (flat_map-append spaced words more))

-- one more word before others
pub spaced_word : (word : Word) (more : List Word) (rest : List ℕ) → spaced word ++ (flat_map spaced more ++ rest) ≡ flat_map spaced (word ∷ more) ++ rest
spaced_word word more rest = sym (append_assoc (spaced word) (flat_map spaced more) rest)

-- more words after the words of a line
pub line_more : (word : Word) (words more : List Word) → line_of (word ∷ words) ++ flat_map spaced more ≡ line_of (word ∷ (words ++ more))
line_more word words more =
    ap (λ l. l ++ flat_map spaced more) (join_spaced word words) ∙ append_assoc word (flat_map spaced words) (flat_map spaced more)
    ∙ ap (λ l. word ++ l) (sym (flat_map-append spaced words more)) ∙ sym (join_spaced word (words ++ more))

-- more words after the words of a line, and the end of the line
pub line_end : (word : Word) (words more : List Word) → line_of (word ∷ words) ++ (flat_map spaced more ++ 10 ∷ []) ≡ ended (line_of (word ∷ (words ++ more)))
line_end word words more = sym (append_assoc (line_of (word ∷ words)) (flat_map spaced more) (10 ∷ [])) ∙ ap ended (line_more word words more)

-- one word, more words, and the end of the line
pub line_word_end : (first : Word) (words : List Word) (word : Word) (more : List Word)
    → line_of (first ∷ words) ++ (spaced word ++ (flat_map spaced more ++ 10 ∷ [])) ≡ ended (line_of (first ∷ (words ++ (word ∷ more))))
line_word_end first words word more = ap (λ l. line_of (first ∷ words) ++ l) (spaced_word word more (10 ∷ [])) ∙ line_end first words (word ∷ more)

-- two lists of words, and the end of the line
pub line_both_end : (first : Word) (words more last : List Word)
    → line_of (first ∷ words) ++ (flat_map spaced more ++ (flat_map spaced last ++ 10 ∷ [])) ≡ ended (line_of (first ∷ (words ++ (more ++ last))))
line_both_end first words more last = ap (λ l. line_of (first ∷ words) ++ l) (spaced_both more last (10 ∷ [])) ∙ line_end first words (more ++ last)

-- ---- without the end

-- one word more after others
pub spaced_last : (words : List Word) (word : Word) → flat_map spaced words ++ spaced word ≡ flat_map spaced (words ++ word ∷ [])
spaced_last words word = ap (λ l. flat_map spaced words ++ l) (sym (append-nil (spaced word))) ∙ sym (flat_map-append spaced words (word ∷ []))

pub line_last : (first : Word) (words more : List Word) (word : Word) → line_of (first ∷ words) ++ (flat_map spaced more ++ spaced word) ≡ line_of (first ∷ (words ++ (more ++ word ∷ [])))
line_last first words more word = ap (λ l. line_of (first ∷ words) ++ l) (spaced_last more word) ∙ line_more first words (more ++ word ∷ [])

pub order_is : (words : List Word) → codes "order max" ++ flat_map spaced words ≡ line_of (codes "order" ∷ codes "max" ∷ words)
order_is words = line_more (codes "order") (codes "max" ∷ []) words
