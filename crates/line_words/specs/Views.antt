-- Words as values, without their places in memory.
use Rattle.std.specs.Prelude.{ℕ, List, map}
use denote.Ref.{Bor}
use Rattle.line_words.specs.Words.{Word}

abbrev pub texts : List (Bor (List ℕ)) → List Word
texts words = map (λ word. word.now) words
