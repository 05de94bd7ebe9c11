-- Laws of edits, over the definitions alone.
use Rattle.std.specs.Prelude.{◌≡◌, ◌↔◌, ℕ, List, Ok}
use Rattle.drawn_networks.specs.Drawn.{Drawn}
use Rattle.range_edits.specs.EditLine.{IsEditOf, edit_at}
use Rattle.range_edits.specs.declared.edit.RangeEdit.{RangeEdit}

-- a line is read as an edit if and only if it spells the edit and what it names is there
abbrev pub EditLinesAreRead : Type 0
EditLinesAreRead = (drawn : Drawn) (n : ℕ) (line : List ℕ) (e : RangeEdit) → ((edit_at drawn n line ≡ Ok e) ↔ IsEditOf drawn line e)
