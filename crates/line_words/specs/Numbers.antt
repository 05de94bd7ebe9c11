-- Words that are numbers.
use Rattle.std.specs.Prelude.{ℕ, ◌-◌, ◌^◌, ℤ, pos, neg_ℤ, ◌&&◌, nat_le, codes, Option, Some, None, IfSome, option_map, FitsSigned}
use Rattle.std.specs.Int.{w64}
use Rattle.itv_base.specs.Cuts.{after, stripped}
use Rattle.itv_base.specs.Numerals.{is_numeral, value_of}
use Rattle.line_words.specs.Words.{Word, is_word, or_else, when}

-- a number of 64 bits with a sign
abbrev pub IsLong : ℤ → Type 0
IsLong value = FitsSigned w64 value

-- a number of 64 bits with a sign, or none
abbrev pub IsLongOrOpen : Option ℤ → Type 0
IsLongOrOpen end = IfSome end IsLong

-- a number up to a limit
abbrev pub number_in : ℕ → Word → Option ℕ
number_in limit word = when (is_numeral word && nat_le (value_of word) limit) (Some (value_of word))

-- a number of 64 bits below 0, by its digits after the sign
abbrev pub negative_in : Word → Option ℤ
negative_in digits = when (is_numeral digits && (nat_le 1 (value_of digits) && nat_le (value_of digits) (2 ^ 63))) (Some (neg_ℤ (pos (value_of digits))))

abbrev pub positive_in : Word → Option ℤ
positive_in digits = when (is_numeral digits && nat_le (value_of digits) (2 ^ 63 - 1)) (Some (pos (value_of digits)))

-- a number of 64 bits with a sign
unfoldable pub long_in : Word → Option ℤ
long_in word = after (stripped (codes "-") word) negative_in (positive_in word)

-- a number of 64 bits with a sign, or a star
unfoldable pub open_in : Word → Option (Option ℤ)
open_in word = or_else (option_map (λ value. Some value) (long_in word)) (when (is_word word (codes "*")) (Some None))
