-- Lines and their ends: a line ends with one line feed, and one space stands between two of its words.
use Rattle.std.specs.Prelude.{ℕ, ◌==◌, Bool, List, [], ◌∷◌, ◌++◌}
use Rattle.std.specs.List.{join_with_byte}
use Rattle.line_words.specs.Words.{Word}

abbrev pub is_feed : ℕ → Bool
is_feed b = b == 10

-- a line with its end
abbrev pub ended : List ℕ → List ℕ
ended line = line ++ 10 ∷ []

-- the line that has these words, without its end
abbrev pub line_of : List Word → List ℕ
line_of words = join_with_byte 32 words

-- a word after a space
abbrev pub spaced : Word → List ℕ
spaced word = 32 ∷ word
