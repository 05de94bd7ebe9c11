-- What a page hands over: words, and files by their names. Pieces come as all their bytes in one list, and the size of each in bytes.
use Rattle.std.specs.Prelude.{◌≡◌, ℕ, List, [], ◌∷◌, length, take, drop, sum, All, IsUtf8}
use Rattle.std.specs.FinMap as map
use Rattle.itv_base.specs.Outside.{Files}

-- the pieces of these sizes, cut from the bytes one after another
abbrev pub cut : List ℕ → List ℕ → List (List ℕ)
cut [] bytes = []
cut (size ∷ sizes) bytes = take size bytes ∷ cut sizes (drop size bytes)

-- the files, and then each content under its name; at one name twice, the later content
abbrev pub filed : Files → List (List ℕ) → List (List ℕ) → Files
filed files [] contents = files
filed files (name ∷ names) [] = files
filed files (name ∷ names) (content ∷ contents) = filed (map.insert files name content) names contents

-- what a page hands over: the bytes of all words, of all names of files and of all contents of files, and the sizes of the pieces
pub record Given : Type 0 where
  pub words : List ℕ
  pub word_sizes : List ℕ
  pub names : List ℕ
  pub name_sizes : List ℕ
  pub files : List ℕ
  pub file_sizes : List ℕ

-- what a page hands over, from the parameters of its call
abbrev pub given_of : List ℕ → List ℕ → List ℕ → List ℕ → List ℕ → List ℕ → Given
given_of words word_sizes names name_sizes files file_sizes =
    record { words = words; word_sizes = word_sizes; names = names; name_sizes = name_sizes; files = files; file_sizes = file_sizes }

-- the words that are handed over
abbrev pub words_in : Given → List (List ℕ)
words_in given = cut given.word_sizes given.words

-- the files that are handed over, and no other
abbrev pub files_in : Given → Files
files_in given = filed map.empty (cut given.name_sizes given.names) (cut given.file_sizes given.files)

-- pieces of these sizes are all of the bytes
abbrev pub AreAll : List ℕ → List ℕ → Type 0
AreAll sizes bytes = sum sizes ≡ length bytes

-- pieces of these sizes are all of the bytes, and each piece is a text
abbrev pub AreTexts : List ℕ → List ℕ → Type 0
AreTexts sizes bytes = AreAll sizes bytes × All IsUtf8 (cut sizes bytes)

-- the words and the names are texts, the pieces are all of the bytes, and each name has a content
pub record IsFit (given : Given) : Type 0 where
  pub words : AreTexts given.word_sizes given.words
  pub names : AreTexts given.name_sizes given.names
  pub contents : AreAll given.file_sizes given.files
  pub as_many : length given.name_sizes ≡ length given.file_sizes
