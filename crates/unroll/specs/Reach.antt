-- How far the rows of a design look back.
use Rattle.std.specs.Prelude.{◌<◌, ℕ, All}
use Rattle.sheet.specs.declared.row.SheetRow.{SheetRow}
use Rattle.compose.specs.Design.{DesignView}
use Rattle.unroll.specs.Cycle.{rows_of}

-- Each row exists in one of so many cycles: none looks back to before the first. A row that does exists in no cycle, and is judged nowhere.
abbrev pub ReachesNoFurther : ℕ → DesignView → Type 0
ReachesNoFurther cycles d = All (λ (row : SheetRow). row.shift < cycles) (rows_of d)
