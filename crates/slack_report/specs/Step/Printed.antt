-- A line as it is put, piece by piece.
use Rattle.std.specs.Prelude.{ℕ, Bool, if◌then◌else◌, List, []}
use Rattle.itv_base.specs.Numerals.{number_text}
use Rattle.line_words.specs.Lines.{spaced}

-- the number of an event after a space, if a set holds it
abbrev pub member_text : ℕ → Bool → List ℕ
member_text number is_in = if is_in then spaced (number_text number) else []
