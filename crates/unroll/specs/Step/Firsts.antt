-- The numbers of the first marks of parts.
use Rattle.std.specs.Prelude.{◌≡◌, ◌≤◌, ℕ, ◌+◌, List, [], ◌∷◌, length}
use Rattle.itv_base.specs.declared.limits.TheConstants.{MAX_EVENTS}
use Rattle.sheet.specs.SheetContents.{SheetView}
use Rattle.compose.specs.Design.{DesignView, IsDesign}
use Rattle.compose.specs.Numbers.{mark_count}

-- the numbers of the first marks of parts; the first mark of the first part has this number
abbrev pub firsts_of : ℕ → List SheetView → List ℕ
firsts_of first [] = []
firsts_of first (sheet ∷ sheets) = first ∷ firsts_of (first + length sheet.marks) sheets

-- a design with few marks, and the number of the first mark of each part
pub record IsNumbered (d : DesignView) (firsts : List ℕ) : Type 0 where
  pub design : IsDesign d
  pub few : mark_count d.sheets ≤ MAX_EVENTS
  pub stand : firsts ≡ firsts_of 0 d.sheets
