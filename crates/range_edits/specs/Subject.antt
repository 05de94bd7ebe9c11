-- What an edit gives another range.
use Rattle.std.specs.Prelude.{◌<◌, ◌^◌, ◌==◌, ℕ, Bool, not, IsTrue, List, [], ◌∷◌, ◌++◌, codes, length, is_some}
use Rattle.itv_base.specs.Numerals.{number_text}
use Rattle.event_graph.specs.Network.{cause_at}
use Rattle.drawn_networks.specs.Drawn.{Drawn}
use Rattle.drawn_numbers.specs.Numbers.{HasNumberForm, causes_of, drawn_number_text}
use Rattle.drawn_numbers.specs.declared.cause_name.CauseName.{CauseName}
use Rattle.range_edits.specs.declared.edit.RangeEdit.{RangeEdit}
use Rattle.range_edits.specs.declared.edit.Subject.{Subject}
use Rattle.range_edits.specs.declared.edit.Subject.TheVariants.{Cause, Number}

-- the causes that get another range: one cause, or each cause that a number draws
abbrev pub causes_at : Drawn → Subject → List CauseName
causes_at drawn (Cause name) = name ∷ []
causes_at drawn (Number number) = causes_of drawn number

-- the cause is there, or the number draws some cause
abbrev pub is_there : Drawn → Subject → Bool
is_there drawn (Cause name) = is_some (cause_at drawn.net name.constraint name.cause)
is_there drawn (Number number) = not (length (causes_of drawn number) == 0)

abbrev pub IsThere : Drawn → RangeEdit → Type 0
IsThere drawn e = IsTrue (is_there drawn e.subject)

-- ---- its text

-- the text of a subject: a constraint, a full stop and one of its causes, or what the number is called in a report
abbrev pub subject_text : Subject → List ℕ
subject_text (Cause name) = number_text name.constraint ++ (codes "." ++ number_text name.cause)
subject_text (Number number) = drawn_number_text number

-- a subject that has a text of this form: its numbers are below 2^32, and a part has the form of a name
abbrev pub HasSubjectForm : Subject → Type 0
HasSubjectForm (Cause name) = (name.constraint < 2 ^ 32) × (name.cause < 2 ^ 32)
HasSubjectForm (Number number) = HasNumberForm number
