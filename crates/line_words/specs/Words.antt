-- The words of a line, and reading a line word by word. Each word is read whole.
use Rattle.std.specs.Prelude.{ℕ, Bool, nat_eq, if◌then◌else◌, List, [], ◌∷◌, Option, Some, None}
use Rattle.std.specs.Option.{option_and_then}
use Rattle.std.specs.Cmp.Lexicographic.{pointwise}
use Rattle.std.specs.List.{slice_split}
use Rattle.itv_base.specs.Cuts.{is_space}

abbrev pub Word : Type 0
Word = List ℕ

-- the word is this text
abbrev pub is_word : Word → Word → Bool
is_word word text = pointwise nat_eq word text

-- the words of a line: the parts between its spaces
abbrev pub split_words : List ℕ → List Word
split_words line = slice_split is_space line

-- ---- how readers are combined

infixl 10 ◌>>=◌
-- what a function makes of what was read, if something was read
abbrev pub ◌>>=◌ : {A B : Type 0} → Option A → (A → Option B) → Option B
o >>= f = option_and_then f o

-- what was read, or else the other
abbrev pub or_else : {A : Type 0} → Option A → Option A → Option A
or_else None other = other
or_else (Some x) other = Some x

-- what was read, if a test is met
abbrev pub when : {A : Type 0} → Bool → Option A → Option A
when test found = if test then found else None

-- the words after the first word, if the first word is this one
abbrev pub behind_word : Word → List Word → Option (List Word)
behind_word key [] = None
behind_word key (word ∷ words) = when (is_word word key) (Some words)

-- what is read of the words after this first word
abbrev pub keyed : {A : Type 0} → Word → (List Word → Option A) → List Word → Option A
keyed key read words = behind_word key words >>= read

-- one word and no other
abbrev pub only_word : List Word → Option Word
only_word [] = None
only_word (word ∷ []) = Some word
only_word (word ∷ other ∷ words) = None

abbrev pub one : {A : Type 0} → (Word → Option A) → List Word → Option A
one read words = only_word words >>= read

-- two words and no other
abbrev pub two_words : List Word → Option (Word × Word)
two_words [] = None
two_words (word ∷ []) = None
two_words (word ∷ other ∷ []) = Some (word, other)
two_words (word ∷ other ∷ more ∷ words) = None

abbrev pub two : {A B : Type 0} → (Word → Option A) → (Word → Option B) → List Word → Option (A × B)
two read also words = two_words words >>= λ both. read both.0 >>= λ x. also both.1 >>= λ y. Some (x, y)

-- what is read of each word, if each can be read
abbrev pub many : {A : Type 0} → (Word → Option A) → List Word → Option (List A)
many read [] = Some []
many read (word ∷ words) = read word >>= λ x. many read words >>= λ xs. Some (x ∷ xs)
