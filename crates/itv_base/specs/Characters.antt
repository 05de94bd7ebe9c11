-- What names and marks are made of.
use Rattle.std.specs.Prelude.{ℕ, Bool, not, ◌&&◌, ◌||◌, ◌==◌, nat_le, List, length}
use Rattle.std.specs.Char.{is_ascii_alphanumeric, is_ascii_graphic}
use Rattle.std.specs.List.{list_all}
use Rattle.itv_base.specs.declared.limits.TheConstants.{MAX_NAME_LEN}

-- a letter of ASCII, a digit or `_`
abbrev pub is_name_byte : ℕ → Bool
is_name_byte b = is_ascii_alphanumeric b || b == 95

-- 1 to `MAX_NAME_LEN` such characters: a tag, or the name of a part
abbrev pub is_name : List ℕ → Bool
is_name name = (nat_le 1 (length name) && nat_le (length name) MAX_NAME_LEN) && list_all is_name_byte name

-- a visible character of ASCII, 0x21 to 0x7E, that is not a full stop
abbrev pub is_mark : ℕ → Bool
is_mark b = is_ascii_graphic b && not (b == 46)
