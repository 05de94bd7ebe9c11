-- Whole numbers in decimal.
use Rattle.std.specs.Prelude.{ℕ, suc, ◌+◌, ◌==◌, ℤ, pos, negsuc, neg_ℤ, Option, Some, None, Bool, true, false, not, ◌&&◌, ◌||◌, nat_lt, if◌then◌else◌, List, ◌++◌, map, length, slice_index, codes}
use Rattle.std.specs.List.{list_all}
use Rattle.std.specs.Char.{is_ascii_digit}
use Rattle.std.specs.Int.Digits.{digits_of}
use Rattle.std.specs.Str.Parse.{digits_value}

-- a whole number in decimal, without a zero in front
abbrev pub number_text : ℕ → List ℕ
number_text n = if n == 0 then codes "0" else map (λ d. 48 + d) (digits_of 10 n)

-- a whole number in decimal, with a minus in front if it is below 0
abbrev pub signed_text : ℤ → List ℕ
signed_text (pos n) = number_text n
signed_text (negsuc n) = codes "-" ++ number_text (suc n)

-- the text of an end of a range, which is `*` where the end is open
abbrev pub end_text : Option ℤ → List ℕ
end_text None = codes "*"
end_text (Some number) = signed_text number

-- one digit or more, with no zero before another one
abbrev pub is_numeral : List ℕ → Bool
is_numeral text = list_all is_ascii_digit text && (nat_lt 0 (length text) && (not (slice_index text 0 == 48) || length text == 1))

-- the number that digits write
abbrev pub value_of : List ℕ → ℕ
value_of digits = digits_value 10 digits

-- a number with a sign, which is negative or not
abbrev pub signed : Bool → ℕ → ℤ
signed false n = pos n
signed true n = neg_ℤ (pos n)
