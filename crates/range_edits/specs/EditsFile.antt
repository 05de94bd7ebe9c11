-- Files of edits: a line for each, with a line end.
use Rattle.std.specs.Prelude.{◌+◌, ◌-◌, ◌==◌, ℕ, Bool, true, false, nat_lt, if◌then◌else◌, List, [], ◌∷◌, length, slice_get, count_by, Result, Ok, Err}
use Rattle.std.specs.Option.{option_map_or}
use Rattle.std.specs.List.{slice_split}
use Rattle.itv_base.specs.Reading.{◌>>=◌}
use Rattle.line_words.specs.Lines.{is_feed}
use Rattle.drawn_networks.specs.Drawn.{Drawn}
use Rattle.range_edits.specs.EditLine.{edit_at}
use Rattle.range_edits.specs.declared.edit.RangeEdit.{RangeEdit}
use Rattle.range_edits.specs.declared.fault.EditsFault.{EditsFault}
use Rattle.range_edits.specs.declared.fault.EditsFault.TheVariants.{Line, NoMemory, NoSuch, Range, TooLong, TooMany}
use Rattle.range_edits.specs.declared.file.TheConstants.{MAX_EDITS, MAX_EDITS_BYTES}

-- the edits of a file that was cut at its line ends, from the line of a number on; bytes after the last line end are a line that is not of the form
abbrev pub edits_from : Drawn → ℕ → List (List ℕ) → Result (List RangeEdit) EditsFault
edits_from drawn n [] = Ok []
edits_from drawn n (rest ∷ []) = if length rest == 0 then Ok [] else Err (Line n)
edits_from drawn n (line ∷ next ∷ lines) =
    edit_at drawn n line >>= λ first. edits_from drawn (n + 1) (next ∷ lines) >>= λ others. Ok (first ∷ others)

-- nothing stands after the last line end
abbrev pub is_ended : List ℕ → Bool
is_ended bytes = option_map_or is_feed (slice_get bytes (length bytes - 1)) true

-- how many lines there are: one for each line end, and one more for what stands after the last
abbrev pub line_count : List ℕ → ℕ
line_count bytes = count_by is_feed bytes + (if is_ended bytes then 0 else 1)

-- the edits of a file, or its first fault
abbrev pub edits_of : Drawn → List ℕ → Result (List RangeEdit) EditsFault
edits_of drawn bytes =
    if nat_lt MAX_EDITS_BYTES (length bytes) then Err TooLong
    else (if nat_lt MAX_EDITS (line_count bytes) then Err (TooMany (line_count bytes)) else edits_from drawn 1 (slice_split is_feed bytes))

-- memory ran out, which is no fault of the file
abbrev pub is_memory : EditsFault → Bool
is_memory TooLong = false
is_memory (TooMany count) = false
is_memory (Line n) = false
is_memory (Range n fault) = false
is_memory (NoSuch n) = false
is_memory NoMemory = true
