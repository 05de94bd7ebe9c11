-- What a line names.
use Rattle.drawn_numbers.specs.declared.drawn_number.DrawnNumber.TheVariants as numbers
use Rattle.range_edits.specs.declared.edit.Subject.{Subject}
use Rattle.range_edits.specs.declared.edit.Subject.TheVariants as subjects
use Rattle.range_edits.specs.declared.named.Named.{Named}
use Rattle.range_edits.specs.declared.named.Named.TheVariants.{Cause, Edge, Net, Wire}

-- the subject of what a line names
abbrev pub subject_view : Named → Subject
subject_view (Cause constraint cause) = subjects.Cause (record { constraint = constraint; cause = cause })
subject_view (Edge part edge) = subjects.Number (numbers.Edge part.now edge)
subject_view (Net net) = subjects.Number (numbers.Net net)
subject_view (Wire wire) = subjects.Number (numbers.Wire wire)
