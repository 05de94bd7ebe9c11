-- What a label is, and the one text that spells it.
use Rattle.std.specs.Prelude.{◌≡◌, ℕ, ◌≤◌, ◌==◌, Bool, true, false, not, if◌then◌else◌, List, [], ◌++◌, slice_index, codes, Option, Some, None, IfSome, is_some, IsTrue, option_map, option_and_then}
use Rattle.std.specs.Option.{option_copied, option_map_or}
use Rattle.itv_base.specs.declared.limits.TheConstants.{MAX_SHIFT}
use Rattle.itv_base.specs.Range.{Ends, has_wide, is_reversed}
use Rattle.itv_base.specs.Characters.{is_name}
use Rattle.itv_base.specs.Numerals.{number_text, end_text}
use Rattle.label_grammar.specs.declared.label.Kind.{Kind}
use Rattle.label_grammar.specs.declared.label.Kind.TheVariants.{Lin, Late, Early, Req, Ask}
use Rattle.label_grammar.specs.declared.label.Label.{Label}
use Rattle.label_grammar.specs.declared.label2.Label2.{Label2}
use Rattle.label_grammar.specs.declared.label2.Span as code
use Rattle.label_grammar.specs.declared.label2.Span.TheVariants.{Fixed, Named}

-- A label. In version 1 the two ends are in it, and in version 2 a span is. Ends are whole numbers of any size, and are not yet known to be a range.
-- An end that is `None` is open.
pub record LooseLabel (E : Type 0) : Type 0 where
  pub kind : Kind
  pub shift : ℕ
  pub tag : Option (List ℕ)
  pub ends : Option E
  pub note : Option (List ℕ)

-- two ends, or the name of a parameter that stands for them
pub data Span : Type 0 where
  fixed : Ends → Span
  named : List ℕ → Span

-- a label that means something: it begins with `@`
abbrev pub is_timing_label : List ℕ → Bool
is_timing_label label = slice_index label 0 == 64

-- a label, apart from where its texts lie in memory
abbrev pub label_view : Label → LooseLabel Ends
label_view l = record { kind = l.kind; shift = l.shift; tag = option_copied l.tag; ends = l.range; note = option_copied l.note }

abbrev pub span_view : code.Span → Span
span_view (Fixed range) = fixed range
span_view (Named name) = named name.now

-- a label of version 2, apart from where its texts lie in memory
abbrev pub label2_view : Label2 → LooseLabel Span
label2_view l = record { kind = l.kind; shift = l.shift; tag = option_copied l.tag; ends = option_map span_view l.span; note = option_copied l.note }

-- whether a label only asks
abbrev pub is_ask : Kind → Bool
is_ask Ask = true
is_ask kind = false

-- ---- versions

-- How the labels of a version give their ends, from what is in them of type `E`: whether it can be spelled, how it is spelled, and the ends, if they are
-- known from the label itself.
pub record Version (E : Type 0) : Type 0 where
  pub has_form : E → Bool
  pub text : E → List ℕ
  pub outright : E → Option Ends

-- the ends are in brackets, after a space
abbrev pub ends_text : Ends → List ℕ
ends_text ends = codes " [" ++ (end_text ends.low ++ (codes "," ++ (end_text ends.high ++ codes "]")))

-- the name of a parameter stands after a space and a dollar sign
abbrev pub span_text : Span → List ℕ
span_text (fixed ends) = ends_text ends
span_text (named name) = codes " $" ++ name

-- a parameter has the form of a name
abbrev pub has_span_form : Span → Bool
has_span_form (fixed ends) = true
has_span_form (named name) = is_name name

-- the ends of a span that gives them itself
abbrev pub fixed_ends : Span → Option Ends
fixed_ends (fixed ends) = Some ends
fixed_ends (named name) = None

-- in version 1 a label gives its ends itself
abbrev pub version_1 : Version Ends
version_1 = record { has_form = λ ends. true; text = ends_text; outright = λ ends. Some ends }

-- in version 2 a label may name a parameter in place of its ends
abbrev pub version_2 : Version Span
version_2 = record { has_form = has_span_form; text = span_text; outright = fixed_ends }

-- a label that has a spelling: the shift is within the limit, a tag is a name, there are ends or a parameter if and only if the kind is no ask, and these
-- can be spelled
pub record IsLoose {E : Type 0} (v : Version E) (l : LooseLabel E) : Type 0 where
  pub shift : l.shift ≤ MAX_SHIFT
  pub tag : IfSome l.tag (λ tag. IsTrue (is_name tag))
  pub ends : is_some l.ends ≡ not (is_ask l.kind)
  pub form : IfSome l.ends (λ written. IsTrue (v.has_form written))

-- the ends of a label, if they are known from the label itself
abbrev pub outright_ends : {E : Type 0} → Version E → LooseLabel E → Option Ends
outright_ends v l = option_and_then v.outright l.ends

-- a finite end is beyond the limit in absolute value
abbrev pub has_wide_end : {E : Type 0} → Version E → LooseLabel E → Bool
has_wide_end v l = option_map_or has_wide (outright_ends v l) false

-- the low end is above the high end
abbrev pub has_reversed_ends : {E : Type 0} → Version E → LooseLabel E → Bool
has_reversed_ends v l = option_map_or is_reversed (outright_ends v l) false

-- a label that has a spelling, and whose ends, if they are known from the label itself, are a range
pub record IsProper {E : Type 0} (v : Version E) (l : LooseLabel E) : Type 0 where
  pub loose : IsLoose v l
  pub narrow : has_wide_end v l ≡ false
  pub ordered : has_reversed_ends v l ≡ false

-- the label of version 2 that says what a label of version 1 says
abbrev pub with_span : LooseLabel Ends → LooseLabel Span
with_span l = record { kind = l.kind; shift = l.shift; tag = l.tag; ends = option_map fixed l.ends; note = l.note }

-- ---- the spelling

-- what a label of a kind begins with
abbrev pub kind_text : Kind → List ℕ
kind_text Lin = codes "@lin"
kind_text Late = codes "@late"
kind_text Early = codes "@early"
kind_text Req = codes "@req"
kind_text Ask = codes "@ask"

-- a shift of 0 is not written
abbrev pub shift_text : ℕ → List ℕ
shift_text shift = if shift == 0 then [] else codes "+" ++ number_text shift

-- a tag stands after a colon
abbrev pub tag_text : Option (List ℕ) → List ℕ
tag_text None = []
tag_text (Some tag) = codes ":" ++ tag

-- the ends or the parameter are spelled as the version has them
abbrev pub optional_text : {E : Type 0} → (E → List ℕ) → Option E → List ℕ
optional_text text None = []
optional_text text (Some written) = text written

-- a note stands after a space
abbrev pub note_text : Option (List ℕ) → List ℕ
note_text None = []
note_text (Some note) = codes " " ++ note

-- the text of a label, with such a text for its ends
abbrev pub spelled : {E : Type 0} → (E → List ℕ) → LooseLabel E → List ℕ
spelled text l = kind_text l.kind ++ (shift_text l.shift ++ (tag_text l.tag ++ (optional_text text l.ends ++ note_text l.note)))

-- the text of a label of a version
abbrev pub spelling : {E : Type 0} → Version E → LooseLabel E → List ℕ
spelling v l = spelled v.text l
