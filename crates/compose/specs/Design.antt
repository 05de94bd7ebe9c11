-- What a design has, and what holds for every design.
use Rattle.std.specs.Prelude.{◌≡◌, ◌<◌, ◌≤◌, ℕ, List, length, All, IsSomeAnd, slice_get}
use Rattle.itv_base.specs.declared.limits.TheConstants.{MAX_CYCLES, MAX_PARTS}
use Rattle.sheet.specs.SheetContents.{SheetView}
use Rattle.sheet.specs.Rule.{RuleView}
use Rattle.sheet.specs.Whole.{IsWhole, IsWholeRow, IsWholeRule}
use Rattle.sheet.specs.declared.row.SheetRow.{SheetRow}
use Rattle.compose.specs.declared.mark.DesignMark.{DesignMark}
use Rattle.compose.specs.declared.joins.Join.{Join}
use Rattle.compose.specs.Numbers.{mark_count}

-- The number of cycles, the names and the sheets of the parts in order, the joins of the nets, and the rules and rows of the wires, between the
-- numbers of the design's marks. All joins are here, however many there are. The code keeps them pin by pin, which takes little memory.
pub record DesignView : Type 0 where
  pub cycles : ℕ
  pub parts : List (List ℕ)
  pub sheets : List SheetView
  pub joins : List Join
  pub rules : List RuleView
  pub rows : List SheetRow

-- the part is there, and so is the mark on its sheet
abbrev pub IsMarkOf : List SheetView → DesignMark → Type 0
IsMarkOf sheets mark = IsSomeAnd (slice_get sheets mark.part) (λ sheet. mark.mark < length sheet.marks)

abbrev pub IsJoinOf : List SheetView → Join → Type 0
IsJoinOf sheets join = IsMarkOf sheets join.from × IsMarkOf sheets join.to

-- there is at least one cycle, each part has a name and a sheet, joins are between marks that are there, and rules and rows are between numbers of
-- marks
pub record IsDesign (d : DesignView) : Type 0 where
  pub some : 1 ≤ d.cycles
  pub cycles : d.cycles ≤ MAX_CYCLES
  pub parts : length d.parts ≡ length d.sheets
  pub few : length d.sheets ≤ MAX_PARTS
  pub sheets : All IsWhole d.sheets
  pub joins : All (IsJoinOf d.sheets) d.joins
  pub rules : All (IsWholeRule (mark_count d.sheets)) d.rules
  pub rows : All (IsWholeRow (mark_count d.sheets)) d.rows
