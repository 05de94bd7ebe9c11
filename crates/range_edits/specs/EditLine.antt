-- The line of an edit, as `set 3.0 [0,12000]`, `set CPU edge 3 [2000,8000]`, `set net 0 [100,300]` or `set wire 1 [0,*]`.
use Rattle.std.specs.Prelude.{◌≡◌, ◌-◌, ◌^◌, ℕ, false, if◌then◌else◌, List, ◌++◌, codes, Option, Some, None, option_map, Result, Ok, Err}
use Rattle.std.specs.Option.{option_and_then}
use Rattle.std.specs.List.{take_while}
use Rattle.std.specs.Char.{is_ascii_digit}
use Rattle.std.specs.Str.{bytes_eq, is_utf8}
use Rattle.itv_base.specs.Characters.{is_name, is_name_byte}
use Rattle.itv_base.specs.Cuts.{after_while, stripped}
use Rattle.itv_base.specs.Range.{Ends, has_wide, is_reversed}
use Rattle.itv_base.specs.Reading.{◌>>=◌}
use Rattle.itv_base.specs.declared.range.RangeFault.TheVariants as ranges
use Rattle.label_grammar.specs.Ends.{judged_alone, only_ends}
use Rattle.label_grammar.specs.Label.{ends_text}
use Rattle.label_grammar.specs.Reading.{ends_of}
use Rattle.label_grammar.specs.declared.label.LabelFault.{LabelFault}
use Rattle.label_grammar.specs.declared.label.LabelFault.TheVariants as labels
use Rattle.line_words.specs.Numbers.{number_in}
use Rattle.line_words.specs.Words.{or_else, when}
use Rattle.drawn_networks.specs.Drawn.{Drawn}
use Rattle.drawn_numbers.specs.declared.drawn_number.DrawnNumber.TheVariants as numbers
use Rattle.range_edits.specs.declared.edit.RangeEdit.{RangeEdit}
use Rattle.range_edits.specs.declared.edit.Subject.{Subject}
use Rattle.range_edits.specs.declared.edit.Subject.TheVariants.{Cause, Number}
use Rattle.range_edits.specs.declared.fault.EditsFault.{EditsFault}
use Rattle.range_edits.specs.declared.fault.EditsFault.TheVariants.{Line, NoSuch, Range}
use Rattle.range_edits.specs.Subject.{HasSubjectForm, IsThere, is_there, subject_text}

-- ---- its text

-- the text of an edit, without a line end
abbrev pub edit_line : RangeEdit → List ℕ
edit_line e = codes "set " ++ (subject_text e.subject ++ ends_text e.range)

-- the line spells the edit; its subject has a text, its ends make a range, and what it names is there
pub record IsEditOf (drawn : Drawn) (line : List ℕ) (e : RangeEdit) : Type 0 where
  pub text : line ≡ edit_line e
  pub subject : HasSubjectForm e.subject
  pub narrow : has_wide e.range ≡ false
  pub ordered : is_reversed e.range ≡ false
  pub there : IsThere drawn e

-- ---- its reading

-- one reading after another, if both read something
infixl 10 ◌>>◌
abbrev pub ◌>>◌ : {A B : Type 0} → Option A → (A → Option B) → Option B
o >> f = option_and_then f o

-- the number that a text begins with, and the text after it
abbrev pub number_of : List ℕ → Option (ℕ × List ℕ)
number_of text = option_map (λ n. (n, after_while is_ascii_digit text)) (number_in (2 ^ 32 - 1) (take_while is_ascii_digit text))

-- a net, given the word `net` and the text after it
abbrev pub net_named : List ℕ → List ℕ → Option (Subject × List ℕ)
net_named word behind = when (bytes_eq word (codes "net")) (stripped (codes " ") behind >> λ rest. number_of rest >> λ x. Some (Number (numbers.Net x.0), x.1))

-- an edge of the netlist, given the word `wire`
abbrev pub wire_named : List ℕ → List ℕ → Option (Subject × List ℕ)
wire_named word behind = when (bytes_eq word (codes "wire")) (stripped (codes " ") behind >> λ rest. number_of rest >> λ x. Some (Number (numbers.Wire x.0), x.1))

-- an edge of a part, given the name of the part
abbrev pub part_edge_named : List ℕ → List ℕ → Option (Subject × List ℕ)
part_edge_named word behind = when (is_name word) (stripped (codes " edge ") behind >> λ rest. number_of rest >> λ x. Some (Number (numbers.Edge word x.0), x.1))

-- a cause of a constraint, given the number of the constraint
abbrev pub cause_named : List ℕ → List ℕ → Option (Subject × List ℕ)
cause_named word behind =
    number_in (2 ^ 32 - 1) word >> λ constraint. stripped (codes ".") behind >> λ dotted. number_of dotted >> λ x.
    Some (Cause (record { constraint = constraint; cause = x.0 }), x.1)

-- what a text names, given its first word and the text after the word; a part may be called as the word before a number is
abbrev pub subject_named : List ℕ → List ℕ → Option (Subject × List ℕ)
subject_named word behind = or_else (net_named word behind) (or_else (wire_named word behind) (or_else (part_edge_named word behind) (cause_named word behind)))

-- the subject that a line names, and the text after it; the first word ends at a character that no name has
unfoldable pub subject_of : List ℕ → Option (Subject × List ℕ)
subject_of text = stripped (codes "set ") text >> λ named. subject_named (take_while is_name_byte named) (after_while is_name_byte named)

-- the range on the line of a number, as it was judged
abbrev pub range_judged : ℕ → Result Ends LabelFault → Result Ends EditsFault
range_judged n (Ok range) = Ok range
range_judged n (Err labels.BadLabel) = Err (Line n)
range_judged n (Err labels.TooWide) = Err (Range n ranges.TooWide)
range_judged n (Err labels.EmptyRange) = Err (Range n ranges.EmptyRange)

-- the edit, where what it names is there, or else the fault of the line
abbrev pub edit_there : Drawn → ℕ → RangeEdit → Result RangeEdit EditsFault
edit_there drawn n e = if is_there drawn e.subject then Ok e else Err (NoSuch n)

-- the edit of the line of a number, given the subject that it names: the form is judged before the range, and the range before the subject
abbrev pub edit_named : Drawn → ℕ → Option (Subject × List ℕ) → Result RangeEdit EditsFault
edit_named drawn n None = Err (Line n)
edit_named drawn n (Some x) = range_judged n (judged_alone (only_ends (ends_of x.1))) >>= λ range. edit_there drawn n (record { subject = x.0; range = range })

-- the edit of the line of a number, counted from 1; a line that is no text is not of the form
abbrev pub edit_at : Drawn → ℕ → List ℕ → Result RangeEdit EditsFault
edit_at drawn n line = if is_utf8 line then edit_named drawn n (subject_of line) else Err (Line n)
