-- What is read of a label before its ends are looked at.
use Rattle.std.specs.Prelude.{ℤ, pos, negsuc, unsigned_abs, ◌+◌, min, Option, Some, None, option_map, Result, Ok, Err, if◌then◌else◌}
use Rattle.std.specs.Option.{option_copied}
use Rattle.itv_base.specs.declared.limits.TheConstants.{END_LIMIT}
use Rattle.itv_base.specs.Numerals.{value_of, signed}
use Rattle.itv_base.specs.Range.{Ends, has_wide, is_reversed}
use Rattle.label_grammar.specs.declared.form.Number.{Number}
use Rattle.label_grammar.specs.declared.form.EndPair.{EndPair}
use Rattle.label_grammar.specs.declared.form.WrittenSpan.{WrittenSpan}
use Rattle.label_grammar.specs.declared.form.WrittenSpan.TheVariants.{Fixed, Named}
use Rattle.label_grammar.specs.declared.form.Form.{Form}
use Rattle.label_grammar.specs.declared.label.LabelFault.{LabelFault}
use Rattle.label_grammar.specs.declared.label.LabelFault.TheVariants.{TooWide, EmptyRange}
use Rattle.label_grammar.specs.Label.{LooseLabel, Span, fixed, named}

-- the number that is written
abbrev pub number_value : Number → ℤ
number_value n = signed n.is_negative (value_of n.digits.now)

-- the two ends as numbers
abbrev pub ends_view : EndPair → Ends
ends_view e = record { low = option_map number_value e.low; high = option_map number_value e.high }

-- the span that is written
abbrev pub written_view : WrittenSpan → Span
written_view (Fixed ends) = fixed (ends_view ends)
written_view (Named name) = named name.now

-- the label that is written
abbrev pub form_view : {T E : Type 0} → (T → E) → Form T → LooseLabel E
form_view written f = record { kind = f.kind; shift = f.shift; tag = option_copied f.tag; ends = option_map written f.written; note = option_copied f.note }

-- a number; a number beyond the limit becomes the first number beyond the limit, with the same sign
abbrev pub capped : ℤ → ℤ
capped (pos n) = pos (min n (unsigned_abs END_LIMIT + 1))
capped (negsuc n) = negsuc (min n (unsigned_abs END_LIMIT))

-- the range that two ends make, or what is wrong with them
abbrev pub judged_ends : Ends → Result Ends LabelFault
judged_ends ends = if has_wide ends then Err TooWide else (if is_reversed ends then Err EmptyRange else Ok ends)

-- the range of a label, if it has ends
abbrev pub judged_range : Option Ends → Result (Option Ends) LabelFault
judged_range None = Ok None
judged_range (Some ends) = if has_wide ends then Err TooWide else (if is_reversed ends then Err EmptyRange else Ok (Some ends))

-- the span of a label of version 2, if it has one, or what is wrong with its ends
abbrev pub judged_span : Option Span → Result (Option Span) LabelFault
judged_span None = Ok None
judged_span (Some (fixed ends)) = if has_wide ends then Err TooWide else (if is_reversed ends then Err EmptyRange else Ok (Some (fixed ends)))
judged_span (Some (named name)) = Ok (Some (named name))
