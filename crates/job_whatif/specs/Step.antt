-- Words of contracts within this crate.
use Rattle.std.specs.Prelude.{◌≡◌, ◌+◌, ◌⊎◌, List, length, All}
use Rattle.itv_base.specs.declared.row_kind.RowKind.{RowKind}
use Rattle.requirements.specs.declared.bound.Bound.{Bound}
use Rattle.requirements.specs.Bounds.{HasTimes}
use Rattle.whatif.specs.Runs.{Note}

-- the numbers of an answer are below 2^61 in absolute value
abbrev pub IsTimed : Bound → Type 0
IsTimed answer = HasTimes answer

-- there are two answers for each row, or none
abbrev pub IsCountFor : List RowKind → List Bound → Type 0
IsCountFor rows list = (length list ≡ 0) ⊎ (length list ≡ length rows + length rows)

-- a note fits these rows: its numbers are small, and it has two answers for each row, or none
pub record IsNoteOf (rows : List RowKind) (note : Note) : Type 0 where
  pub timed : All IsTimed note.answers
  pub count : IsCountFor rows note.answers
