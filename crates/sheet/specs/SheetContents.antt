-- What a sheet holds.
use Rattle.std.specs.Prelude.{ℕ, List}
use Rattle.sheet.specs.declared.mark.Mark.{Mark}
use Rattle.sheet.specs.declared.pin.Pin.{Pin}
use Rattle.sheet.specs.declared.row.SheetRow.{SheetRow}
use Rattle.sheet.specs.Rule.{RuleView}

-- the marks lane by lane and then by place; the pins; the rules in the order of their constraints; the rows in the order of their edges;
-- the texts of the edges in order, as they are written, with the comments; and the near keys of the drawing's tree, which are ignored
-- and nearly are keys that are read
pub record SheetView : Type 0 where
  pub marks : List Mark
  pub pins : List Pin
  pub rules : List RuleView
  pub rows : List SheetRow
  pub edges : List (List ℕ)
  pub near : List (List ℕ)
