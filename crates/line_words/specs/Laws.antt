-- Laws of words that are numbers.
use Rattle.std.specs.Prelude.{◌≡◌, ◌≤◌, ◌↔◌, ℕ, Option, Some}
use Rattle.itv_base.specs.Numerals.{end_text, number_text, signed_text}
use Rattle.line_words.specs.Words.{Word}
use Rattle.line_words.specs.Numbers.{IsLong, IsLongOrOpen, long_in, number_in, open_in}

-- A reader and a writer of words invert each other: a word reads as a value if and only if it is the text of the value and the value has the form.
abbrev pub AreInverse : {A : Type 0} → (Word → Option A) → (A → Word) → (A → Type 0) → Type 0
AreInverse {A} read spell Form = (word : Word) (x : A) → (read word ≡ Some x) ↔ ((word ≡ spell x) × Form x)

-- the reader and the writer of numbers up to a limit invert each other
abbrev pub NumbersInvert : Type 0
NumbersInvert = (limit : ℕ) → AreInverse (number_in limit) number_text (λ n. n ≤ limit)

-- the reader and the writer of numbers of 64 bits with a sign invert each other
abbrev pub LongsInvert : Type 0
LongsInvert = AreInverse long_in signed_text IsLong

-- the reader and the writer of numbers of 64 bits with a sign, or a star, invert each other
abbrev pub OpensInvert : Type 0
OpensInvert = AreInverse open_in end_text IsLongOrOpen
