-- Parts that are cut off the front of a text.
use Rattle.std.specs.Prelude.{ℕ, Bool, false, List, [], ◌∷◌, Option, Some, None}
use Rattle.itv_base.specs.Characters.{is_mark}
use Rattle.line_words.specs.Words.{Word, is_word, when}

-- the mark with which a text begins, and the text after it
abbrev pub mark_of : List ℕ → Option (ℕ × List ℕ)
mark_of [] = None
mark_of (mark ∷ rest) = when (is_mark mark) (Some (mark, rest))

-- the first word is this one
abbrev pub stands_first : Word → List Word → Bool
stands_first key [] = false
stands_first key (word ∷ words) = is_word word key
