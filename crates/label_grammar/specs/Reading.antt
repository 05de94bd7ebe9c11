-- Reading a label from the front of a text. The law `reading_inverts_spelling` says that reading and spelling invert each other.
use Rattle.std.specs.Prelude.{ℕ, ℤ, pos, Bool, true, false, ◌&&◌, nat_lt, nat_le, if◌then◌else◌, List, [], ◌∷◌, codes, Option, Some, None, neg_ℤ}
use Rattle.std.specs.Option.{option_and_then}
use Rattle.std.specs.List.{take_while}
use Rattle.std.specs.Char.{is_ascii_digit}
use Rattle.itv_base.specs.declared.limits.TheConstants.{MAX_SHIFT}
use Rattle.itv_base.specs.Range.{Ends}
use Rattle.itv_base.specs.Characters.{is_name, is_name_byte}
use Rattle.itv_base.specs.Cuts.{is_space, stripped, after, after_while}
use Rattle.itv_base.specs.Numerals.{is_numeral, value_of}
use Rattle.label_grammar.specs.declared.label.Kind.{Kind}
use Rattle.label_grammar.specs.declared.label.Kind.TheVariants.{Lin, Late, Early, Req, Ask}
use Rattle.label_grammar.specs.Label.{LooseLabel, Span, fixed, named, is_ask, kind_text}

-- one reading after another, if both read something
infixl 10 ◌>>=◌
abbrev pub ◌>>=◌ : {A B : Type 0} → Option A → (A → Option B) → Option B
o >>= f = option_and_then f o

-- Each of these but the last two gives what was read and the text after it.

-- the first of these kinds with its word at the front of the text
abbrev pub first_kind : List Kind → List ℕ → Option (Kind × List ℕ)
first_kind [] text = None
first_kind (kind ∷ kinds) text = after (stripped (kind_text kind) text) (λ rest. Some (kind, rest)) (first_kind kinds text)

-- `@` and the word of a kind
unfoldable pub kind_of : List ℕ → Option (Kind × List ℕ)
kind_of text = first_kind (Lin ∷ Late ∷ Early ∷ Req ∷ Ask ∷ []) text

-- a shift is at least 1, where one is written
abbrev pub shift_from : List ℕ → List ℕ → Option (ℕ × List ℕ)
shift_from digits rest = if is_numeral digits && (nat_le 1 (value_of digits) && nat_le (value_of digits) MAX_SHIFT) then Some (value_of digits, rest) else None

-- a plus and a shift, or nothing, which is a shift of 0
unfoldable pub shift_of : List ℕ → Option (ℕ × List ℕ)
shift_of text = after (stripped (codes "+") text) (λ rest. shift_from (take_while is_ascii_digit rest) (after_while is_ascii_digit rest)) (Some (0, text))

-- a tag has the form of a name
abbrev pub tag_from : List ℕ → List ℕ → Option (Option (List ℕ) × List ℕ)
tag_from tag rest = if is_name tag then Some (Some tag, rest) else None

-- a colon and a tag, or nothing
unfoldable pub tag_of : List ℕ → Option (Option (List ℕ) × List ℕ)
tag_of text = after (stripped (codes ":") text) (λ rest. tag_from (take_while is_name_byte rest) (after_while is_name_byte rest)) (Some (None, text))

-- a number after a minus is not 0
abbrev pub number_from : Bool → List ℕ → List ℕ → Option (Option ℤ × List ℕ)
number_from false digits rest = if is_numeral digits then Some (Some (pos (value_of digits)), rest) else None
number_from true digits rest = if is_numeral digits && nat_lt 0 (value_of digits) then Some (Some (neg_ℤ (pos (value_of digits))), rest) else None

-- the digits of a number after its sign
abbrev pub number_of : Bool → List ℕ → Option (Option ℤ × List ℕ)
number_of is_negative text = number_from is_negative (take_while is_ascii_digit text) (after_while is_ascii_digit text)

-- a star for an open end, or a number with or without a minus
unfoldable pub end_of : List ℕ → Option (Option ℤ × List ℕ)
end_of text = after (stripped (codes "*") text) (λ rest. Some (None, rest)) (after (stripped (codes "-") text) (number_of true) (number_of false text))

-- a space, and the two ends in brackets
unfoldable pub ends_of : List ℕ → Option (Ends × List ℕ)
ends_of text = do
  opened ← stripped (codes " [") text
  low ← end_of opened
  parted ← stripped (codes ",") low.1
  high ← end_of parted
  closed ← stripped (codes "]") high.1
  Some (record { low = low.0; high = high.0 }, closed)

-- a parameter has the form of a name
abbrev pub name_from : List ℕ → List ℕ → Option (Span × List ℕ)
name_from name rest = if is_name name then Some (named name, rest) else None

-- a space, a dollar sign and the name of a parameter, or the ends
unfoldable pub span_of : List ℕ → Option (Span × List ℕ)
span_of text =
    after (stripped (codes " $") text) (λ rest. name_from (take_while is_name_byte rest) (after_while is_name_byte rest))
    (ends_of text >>= λ ends. Some (fixed ends.0, ends.1))

-- the ends or the parameter, as a version reads them; an ask has neither
unfoldable pub unless_ask : {E : Type 0} → (List ℕ → Option (E × List ℕ)) → Bool → List ℕ → Option (Option E × List ℕ)
unless_ask reading true text = Some (None, text)
unless_ask reading false text = reading text >>= λ written. Some (Some written.0, written.1)

-- what is left is nothing, or a space and a note
unfoldable pub note_of : List ℕ → Option (Option (List ℕ))
note_of [] = Some None
note_of (b ∷ note) = if is_space b then Some (Some note) else None

-- The label that a whole text spells, if it spells one. Version 1 reads the ends by `ends_of`, and version 2 by `span_of`.
unfoldable pub label_of : {E : Type 0} → (List ℕ → Option (E × List ℕ)) → List ℕ → Option (LooseLabel E)
label_of reading text = do
  kind ← kind_of text
  shift ← shift_of kind.1
  tag ← tag_of shift.1
  written ← unless_ask reading (is_ask kind.0) tag.1
  note ← note_of written.1
  Some (record { kind = kind.0; shift = shift.0; tag = tag.0; ends = written.0; note = note })
